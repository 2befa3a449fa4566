-- Derivation lines at a place of a text: what the code's loops and tests tell of them. Assumes nothing.
use Prim.Native.Nat.{ℕ, suc, ◌+◌, ◌≤◌, ◌<◌}
use native.Mathlib.Numerals.{add-one}
use native.Mathlib.Omega.{arith}
use native.Mathlib.Nat.{zero-add}
use mathlib.Core.Path.{◌≡◌, refl, ◌∙◌}
use mathlib.Core.List.{List, [], ◌∷◌, ◌++◌, map, append_assoc}
use mathlib.Core.Bool.{Bool, true, false, cond, and-false}
use lib.Dec.{leb}
use borrow.Author.Tests.{le-leb, lt-leb}
use lib.ListN.{length, get_or, drop, drop_of_length-le}
use lib.Seq.{drop-cons, drop-drop}
use Rattle.std.specs.Prelude.{Option, Some, None}
use Rattle.std.specs.Borrow.{Bor}
use Rattle.grammar.specs.Sizes.{grounder_size}
use Rattle.grammar.specs.Bytes as bytes
use Rattle.grammar.specs.Bytes.{Bytes, begins, is_printable, span}
use Rattle.grammar.specs.Outcome.{Outcome}
use Rattle.grammar.specs.Reading.{Reading, give, refuse, ◌>>=◌, word, token, ◌⇒◌, one_of, separated}
use Rattle.grammar.specs.Derivation.{Line, is_grounder, read_ranged, line_kinds, read_line}
use Rattle.grammar.proofs.Derivation.{reads_ranged}
use Rattle.grammar.proofs.Outcome.{Allowed}
use Rattle.grammar.proofs.Reading.{span-split}
use Rattle.grammar.proofs.Separated.{prepended, prepended_none, prepended_more, reads_shrinks, separated-refused, separated-last, separated_more}
use Rattle.text.specs.memory.Found.{Found, Refused}
use Rattle.text.specs.memory.Told.{Told, Ends}
use Rattle.text.specs.declared.read.Read.{Read}
use Rattle.text.specs.memory.Numbers.{number_at, number_end, numbers_at}
use Rattle.text.proofs.Found.{found-give, found-later, found-token, refused-token}
use Rattle.text.proofs.Told.{found-by_word, one_of_on}
use Rattle.derivation.specs.memory.RuleLines.{line_in, ToldLine, reader_of, entry_of, read_kind}
use Rattle.derivation.specs.declared.rule_line.Kind.{Kind}
use Rattle.derivation.specs.declared.rule_line.Line.{Line as LineRead}

-- Numbers with commas between them.

module _ (least greatest : ℕ) where
  abbrev numbers : Reading (List ℕ)
  numbers = separated 44 (read_ranged least greatest)

  -- some numbers are read, and the list goes on at a place
  pub record NumbersPassed (text : Bytes) (at i many : ℕ) : Type 0 where
    pub is : numbers (drop at text) ≡ prepended (numbers_at text at many) (numbers (drop i text))
    pub stand : (more : ℕ) → numbers_at text at (many + more) ≡ numbers_at text at many ++ numbers_at text i more
    pub few : at + many ≤ i
    pub within : i ≤ length text

  shrinks : (s : Bytes) → Allowed (λ p. length p.1 ≤ length s) (read_ranged least greatest s)
  shrinks = reads_shrinks (reads_ranged least greatest)

  module _ (text : Bytes) (at : ℕ) where
    pub numbers_first : at ≤ length text → NumbersPassed text at at 0
    unfolding numbers_at
    numbers_first h = record { is = prepended_none (numbers (drop at text)); stand = λ more. rw (zero-add more); few = omega arith; within = h }

    module _ (i many : ℕ) (passed : NumbersPassed text at i many) where
      pub numbers_refused : Refused 10 (read_ranged least greatest) text i → Refused 10 numbers text at
      numbers_refused f =
          record { is = passed.is ∙ rw (separated-refused 44 (omega arith) (read_ranged least greatest) shrinks (drop i text) 10 f.is) }

      -- one more is read
      module _ (n next : ℕ) (found : Found (read_ranged least greatest) text i n next) (stands : n ≡ number_at text i) (ends : next ≡ number_end text i) (after : i < next) where
        one_more : numbers_at text at (many + 1) ≡ numbers_at text at many ++ (n ∷ [])
        unfolding numbers_at
        one_more = passed.stand 1 ∙ rw stands

        pub numbers_last : (bytes.next (drop next text) ≡ 44 → ⊥) → Found numbers text at (numbers_at text at (many + 1)) next
        numbers_last h =
            record {
              is = passed.is
                  ∙ rw (separated-last 44 (omega arith) (read_ranged least greatest) shrinks (drop i text) n (drop next text) found.is h, one_more);
              after = omega (arith, passed.few);
              within = found.within;
            }

        pub numbers_on : bytes.next (drop next text) ≡ 44 → next < length text → NumbersPassed text at (next + 1) (many + 1)
        unfolding numbers_at
        numbers_on h k =
            record {
              is = passed.is
                  ∙ rw (
                    separated_more 44 (omega arith) (read_ranged least greatest) shrinks (drop i text) n (drop next text) found.is h,
                    drop-drop 1 next text,
                    prepended_more (numbers_at text at many) (n ∷ []) (numbers (drop (next + 1) text)),
                    one_more,
                  );
              stand = λ more.
                  let e : many + 1 + more ≡ many + suc more = omega arith in
                  rw (e, passed.stand (suc more), one_more, append_assoc, stands, ends);
              few = omega (arith, passed.few);
              within = omega arith;
            }

-- The grounder's name, which is a run of printable bytes.

module _ (text : Bytes) (start : ℕ) where
  abbrev name : Bytes
  name = span is_printable (drop start text)

  pub grounder_empty : length name < 1 → Refused 10 (token 10 is_printable is_grounder) text start
  grounder_empty h = refused-token text start 10 is_printable is_grounder (rw (lt-leb 1 (length name) h))

  pub grounder-long : 31 < length name → Refused 10 (token 10 is_printable is_grounder) text start
  unfolding grounder_size
  grounder-long h = refused-token text start 10 is_printable is_grounder (rw (lt-leb (length name) 31 h) (and-false (leb 1 (length name))))

  pub grounder-named : (end : ℕ) → end ≡ start + length name → end ≤ length text → 1 ≤ length name → length name ≤ 31
      → Ends (token 10 is_printable is_grounder) text start end
  unfolding grounder_size
  grounder-named end ends h least most =
      let fits : is_grounder name ≡ true = rw (le-leb 1 (length name) least, le-leb (length name) 31 most) (span-split is_printable (drop start text)).0 in
      record { thing = name; found = rw ends (found-token text start 10 is_printable is_grounder (omega arith) fits) }

-- The kind of a line, by the first of some words that stands there.

module _ (text : Bytes) (at : ℕ) (kinds : List (Bor Bytes × Kind)) where
  abbrev among : List (Bor Bytes × Kind) → Reading (Reading Line)
  among some = one_of (map entry_of some) (refuse 10)

  -- no word of the first kinds stands there
  pub record Passed (i : ℕ) : Type 0 where
    pub is : among kinds (drop at text) ≡ among (drop i kinds) (drop at text)

  module _ (i : ℕ) (passed : Passed i) where
    module _ (other : Bor Bytes × Kind) (h : i < length kinds) where
      abbrev here : Bor Bytes × Kind
      here = get_or kinds i other

      next_kind : among kinds (drop at text) ≡ among (here ∷ drop (i + 1) kinds) (drop at text)
      next_kind = passed.is ∙ rw (drop-cons kinds i other h, add-one)

      pub kind-found : {next : ℕ} → Ends (word 10 here.0.now) text at next → Found (among kinds) text at (reader_of here.1) next
      kind-found e =
          found-later text at _ next_kind (omega arith)
          (found-by_word 10 _ text at _ _ _ e (found-give (reader_of here.1) e.found.within))

      pub kind_past : Refused 10 (word 10 here.0.now) text at → Passed (i + 1)
      kind_past e = record { is = next_kind ∙ one_of_on 10 _ text at _ _ _ e }

    pub kind_none : length kinds ≤ i → Refused 10 (among kinds) text at
    unfolding one_of
    kind_none h = record { is = passed.is ∙ rw (drop_of_length-le kinds h) }

-- a line is what is read behind the word of its kind
by_kind : (kinds : List (Bytes × Reading Line)) (s : Bytes) → one_of kinds (refuse 10) s ≡ (one_of (map (λ k. k.0 ⇒ give k.1) kinds) (refuse 10) >>= λ r. r) s
unfolding one_of
by_kind [] s = refl
by_kind (k ∷ kinds) s = pick (begins k.0 s) (by_kind kinds s)
  where
    on : Reading Line
    on = one_of kinds (refuse 10)

    kind_on : Reading (Reading Line)
    kind_on = one_of (map (λ q. q.0 ⇒ give q.1) kinds) (refuse 10)

    pick : (b : Bool) → on s ≡ (kind_on >>= λ r. r) s
        → cond b (λ t. k.1 (drop (length k.0) t)) on s ≡ ((cond b (λ t. give k.1 (drop (length k.0) t)) kind_on) >>= λ r. r) s
    pick true e = refl
    pick false e = e

-- the outcome is what another reader makes of the text from a place on
pub record Behind (outcome : Outcome ℕ (Line × Bytes)) (reader : Reading Line) (text : Bytes) (at next : ℕ) : Type 0 where
  pub is : outcome ≡ reader (drop next text)
  pub after : at ≤ next

module _ (text : Bytes) (at : ℕ) where
  same_line : read_line (drop at text) ≡ (read_kind >>= λ r. r) (drop at text)
  unfolding read_line read_kind
  same_line = by_kind line_kinds (drop at text)

  pub line-unknown : Refused 10 read_kind text at → Refused 10 read_line text at
  line-unknown f = record { is = same_line ∙ rw f.is }

  pub kind-behind : {tail : Reading Line} {mid : ℕ} → Found read_kind text at tail mid → Behind (read_line (drop at text)) tail text at mid
  kind-behind kind = record { is = same_line ∙ rw kind.is; after = kind.after }

  module _ {tail : Reading Line} {mid : ℕ} (behind : Behind (read_line (drop at text)) tail text at mid) where
    line-found : (told : Option (Read LineRead)) → Told 10 tail (line_in text) text mid told → Told 10 read_line (line_in text) text at told
    line-found (Some read) f = record { is = behind.is ∙ f.is; after = omega (arith, behind.after, f.after); within = f.within }
    line-found None f = record { is = behind.is ∙ f.is }

    pub line-told : (told : Option (Read LineRead)) → ToldLine tail text mid told → ToldLine read_line text at told
    line-told (Some read) f = (line-found (Some read) f.0, (omega (arith, behind.after, f.1.0), f.1.1))
    line-told None f = (line-found None f.0, tt)

  pub kind-told : {tail : Reading Line} {mid : ℕ} → Found read_kind text at tail mid
      → (told : Option (Read LineRead)) → Told 10 tail (line_in text) text mid told → Told 10 read_line (line_in text) text at told
  kind-told kind = line-found (kind-behind kind)
