-- Items with commas between them, one after the other: what was read and what is read of the rest are what is read of the whole. And where there
-- may be as many items as the text has bytes, they are those of `separated`.
-- Assumes nothing.
use Prim.Native.Nat.{ℕ, zero, suc, ◌+◌, ◌-◌, ◌≤◌, ◌<◌}
use native.Mathlib.Numerals.{sub-one}
use native.Mathlib.Omega.{arith}
use mathlib.Core.Path.{◌≡◌, refl, sym, ap, ◌∙◌}
use mathlib.Core.List.{List, [], ◌∷◌, ◌++◌, append-nil, append_assoc}
use mathlib.Core.Bool.{Bool, true, false}
use lib.Dec.{eqb}
use lib.ListN.{length, drop}
use lib.Seq.{drop-drop}
use borrow.Author.Tests.{eq-eqb, ne_eqb, eqb-true, eqb-false}
use Rattle.grammar.specs.Bytes.{Bytes, next, begins}
use Rattle.grammar.specs.Outcome.{Outcome, done, refused}
use Rattle.grammar.specs.Outcome as outcome
use Rattle.grammar.specs.Reading.{Reading, word, further, separated}
use Rattle.grammar.proofs.Outcome.{Allowed}
use Rattle.grammar.proofs.Separated.{prepended, listed-separated}
use Rattle.text.proofs.FoundBytes.{byte_found, byte_missing}
use Rattle.terms.specs.memory.Lists.{up_to}

-- one byte
module _ (b : ℕ) (nonzero : 0 < b) where
  pub begins-first : (s : Bytes) → next s ≡ b → begins (b ∷ []) s ≡ true
  begins-first s e = (byte_found s 0 b nonzero e).stands

  pub begins_other : (s : Bytes) → (next s ≡ b → ⊥) → begins (b ∷ []) s ≡ false
  begins_other s h = byte_missing s 0 b h

  pub byte_first : (number : ℕ) (s : Bytes) → next s ≡ b → word number (b ∷ []) s ≡ done (tt, drop 1 s)
  unfolding word
  byte_first number s e = rw (begins-first s e)

  pub byte_other : (number : ℕ) (s : Bytes) → (next s ≡ b → ⊥) → word number (b ∷ []) s ≡ refused number
  unfolding word
  byte_other number s h = rw (begins_other s h)

-- at a place
module _ (text : Bytes) (at b : ℕ) (nonzero : 0 < b) where
  pub byte_read : (number : ℕ) → next (drop at text) ≡ b → word number (b ∷ []) (drop at text) ≡ done (tt, drop (at + 1) text)
  byte_read number e = rw (byte_first b nonzero number (drop at text) e, drop-drop 1 at text)

  pub byte_refused : (number : ℕ) → (next (drop at text) ≡ b → ⊥) → word number (b ∷ []) (drop at text) ≡ refused number
  byte_refused number h = byte_other b nonzero number (drop at text) h

module _ {A : Type 0} (item : Reading A) (text : Bytes) (i more : ℕ) (items : List A) where
  pub list-refused : (number : ℕ) → item (drop i text) ≡ refused number → prepended items (up_to more item (drop i text)) ≡ refused number
  unfolding up_to
  list-refused number e = rw e

  -- an item is read
  module _ (a : A) (after : ℕ) (e : item (drop i text) ≡ done (a, drop after text)) where
    -- what follows it
    list-next : (o : Outcome ℕ (List A × Bytes)) → further 44 item more (drop after text) ≡ o
        → prepended items (up_to more item (drop i text)) ≡ prepended (items ++ (a ∷ [])) o
    unfolding up_to
    list-next o f = rw (e, f) (pick o)
      where
        pick : (o : Outcome ℕ (List A × Bytes)) → prepended items (outcome.◌>>=◌ o λ q. done (a ∷ q.0, q.1)) ≡ prepended (items ++ (a ∷ [])) o
        pick (done q) = ap (λ l. done (l, q.1)) (sym (append_assoc items (a ∷ []) q.0))
        pick (refused number) = refl

    list-end : further 44 item more (drop after text) ≡ done ([], drop after text)
        → prepended items (up_to more item (drop i text)) ≡ done (items ++ (a ∷ []), drop after text)
    list-end f = list-next (done ([], drop after text)) f ∙ ap (λ l. done (l, drop after text)) (append-nil (items ++ (a ∷ [])))

    pub list_full : more ≡ 0 → prepended items (up_to more item (drop i text)) ≡ done (items ++ (a ∷ []), drop after text)
    unfolding further
    list_full z = list-end (rw z)

    pub list-last : (next (drop after text) ≡ 44 → ⊥) → prepended items (up_to more item (drop i text)) ≡ done (items ++ (a ∷ []), drop after text)
    unfolding further
    list-last h = list-end (stop more)
      where
        stop : (n : ℕ) → further 44 item n (drop after text) ≡ done ([], drop after text)
        stop zero = refl
        stop (suc n) = rw (ne_eqb (next (drop after text)) 44 h)

    pub list-more : (more ≡ 0 → ⊥) → next (drop after text) ≡ 44
        → prepended items (up_to more item (drop i text)) ≡ prepended (items ++ (a ∷ [])) (up_to (more - 1) item (drop (after + 1) text))
    unfolding further up_to
    list-more some h = list-next (up_to (more - 1) item (drop (after + 1) text)) (go more some)
      where
        go : (n : ℕ) → (n ≡ 0 → ⊥) → further 44 item n (drop after text) ≡ up_to (n - 1) item (drop (after + 1) text)
        go zero some = absurd (some refl)
        go (suc n) some = rw (eq-eqb (next (drop after text)) 44 h, sub-one (suc n), drop-drop 1 after text)

-- As many items as there are bytes are enough, since an item leaves no more than it was read from.

abbrev pub Shorter : {A : Type 0} → Bytes → A × Bytes → Type 0
Shorter s p = length p.1 ≤ length s

abbrev pub Shrinks : {A : Type 0} → Reading A → Type 0
Shrinks item = (s : Bytes) → Allowed (Shorter s) (item s)

pub up_to-separated : {A : Type 0} (item : Reading A) → Shrinks item → (most : ℕ) (s : Bytes) → length s ≤ most → up_to most item s ≡ separated 44 item s
unfolding up_to
up_to-separated item shrinks most s h = listed-separated 44 (omega arith) item shrinks most s h

-- Two items with a comma between them and a bracket behind them are a list of two.

module _ {A B : Type 0} (item : Reading A) (pair : A → A → B) (finish : List A → Reading B) where
  abbrev pub read_pair : Reading B
  read_pair s =
      outcome.◌>>=◌ (item s) λ p.
      outcome.◌>>=◌ (word 5 (44 ∷ []) p.1) λ q.
      outcome.◌>>=◌ (item q.1) λ r.
      outcome.◌>>=◌ (word 5 (41 ∷ []) r.1) λ z.
      done (pair p.0 r.0, z.1)

  module _ (two : (a b : A) (s : Bytes) → finish (a ∷ b ∷ []) s ≡ (outcome.◌>>=◌ (word 5 (41 ∷ []) s) λ z. done (pair a b, z.1)))
      (one : (a : A) (s : Bytes) → finish (a ∷ []) s ≡ refused 5) where
    -- behind the first
    abbrev first_of : A → Outcome ℕ (List A × Bytes) → Outcome ℕ (B × Bytes)
    first_of a o = outcome.◌>>=◌ {A = List A × Bytes} (outcome.◌>>=◌ o λ q. done (a ∷ q.0, q.1)) λ p. finish p.0 p.1

    abbrev second_of : A → Outcome ℕ (A × Bytes) → Outcome ℕ (B × Bytes)
    second_of a o = outcome.◌>>=◌ o λ r. outcome.◌>>=◌ (word 5 (41 ∷ []) r.1) λ z. done (pair a r.0, z.1)

    behind_comma : (a : A) (o : Outcome ℕ (A × Bytes)) → first_of a (outcome.◌>>=◌ o λ r. done (r.0 ∷ [], r.1)) ≡ second_of a o
    behind_comma a (done r) = two a r.0 r.1
    behind_comma a (refused number) = refl

    behind_first : (a : A) (t : Bytes) (b : Bool) → eqb (next t) 44 ≡ b
        → first_of a (further 44 item 1 t) ≡ (outcome.◌>>=◌ (word 5 (44 ∷ []) t) λ q. second_of a (item q.1))
    unfolding further
    behind_first a t true e = rw (e, byte_first 44 (omega arith) 5 t (eqb-true (next t) 44 e)) (behind_comma a (item (drop 1 t)))
    behind_first a t false e = rw (e, byte_other 44 (omega arith) 5 t (eqb-false (next t) 44 e)) (one a t)

    pub pair_list : (s : Bytes) → (outcome.◌>>=◌ (up_to 1 item s) λ p. finish p.0 p.1) ≡ read_pair s
    unfolding up_to
    pair_list s = pick (item s)
      where
        pick : (o : Outcome ℕ (A × Bytes))
            → (outcome.◌>>=◌ {A = List A × Bytes} (outcome.◌>>=◌ o λ p. outcome.◌>>=◌ (further 44 item 1 p.1) λ q. done (p.0 ∷ q.0, q.1)) λ p. finish p.0 p.1)
            ≡ (outcome.◌>>=◌ o λ p. outcome.◌>>=◌ (word 5 (44 ∷ []) p.1) λ q. second_of p.0 (item q.1))
        pick (done p) = behind_first p.0 p.1 (eqb (next p.1) 44) refl
        pick (refused number) = refl
