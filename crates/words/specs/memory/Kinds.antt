-- What a word of memory starts, how many words whole formulas take, and whether terms are elements. A word is `payload * 16 + tag`; the payload is a connective's part count, a
-- quantifier's or a term's variable index, an atom's `term count * 256 + predicate index`, or a term's element.
use Rattle.std.specs.Prelude.{ℕ, zero, suc, ◌+◌, ◌/◌, ◌%◌, List, [], ◌∷◌, Bool, true, false, cond, ◌&&◌, eqb, get_or, drop}
use Rattle.words.specs.declared.word.Kind.{Kind}
use Rattle.words.specs.declared.word.Kind.TheVariants.{Truth, Atom, Equality, Connective, Quantifier, Term}
use Rattle.words.specs.declared.word.Sign.TheVariants.{Negation, Implies, ImpliedBy, Equivalent, Junction}

unfoldable pub kind_by : ℕ → ℕ → Kind
kind_by tag payload =
    cond (eqb tag 0) (Truth false)
    (cond (eqb tag 1) (Truth true)
    (cond (eqb tag 2) (Connective Negation payload)
    (cond (eqb tag 3) (Connective (Junction true) payload)
    (cond (eqb tag 4) (Connective (Junction false) payload)
    (cond (eqb tag 5) (Connective Implies payload)
    (cond (eqb tag 6) (Connective ImpliedBy payload)
    (cond (eqb tag 7) (Connective Equivalent payload)
    (cond (eqb tag 8) (Quantifier true payload)
    (cond (eqb tag 9) (Quantifier false payload)
    (cond (eqb tag 10) (Atom (payload % 256) (payload / 256))
    (cond (eqb tag 11) Equality Term)))))))))))

abbrev pub kind_of : ℕ → Kind
kind_of word = kind_by (word % 16) (word / 16)

-- how many formulas or terms follow as its parts
abbrev pub part_count : Kind → ℕ
part_count (Truth b) = 0
part_count (Atom p n) = n
part_count Equality = 2
part_count (Connective o n) = n
part_count (Quantifier e x) = 2
part_count Term = 0

-- how many words the next n formulas or terms take
unfoldable pub skip : List ℕ → ℕ → ℕ
skip [] n = 0
skip (w ∷ s) zero = 0
skip (w ∷ s) (suc n) = suc (skip s (n + part_count (kind_of w)))

-- so many terms, one after the other, are elements
unfoldable pub elements_at : ℕ → List ℕ → Bool
elements_at zero s = true
elements_at (suc n) s = eqb (get_or s 0 0 % 16) 12 && elements_at n (drop 1 s)
