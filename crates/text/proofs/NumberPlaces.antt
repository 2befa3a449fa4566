-- Numbers at a place of a text: a value capped at each digit is the value capped at the end, digits are passed one by one, and what
-- `read_number` makes of them.
-- Assumes nothing.
use Prim.Native.Nat.{ℕ, zero, suc, ◌+◌, ◌*◌, ◌-◌, ◌≤◌, ◌<◌, min, max}
use native.Mathlib.Nat.{min-eq_left, min-eq_right, add-zero}
use native.Mathlib.Decide.{dec_le}
use native.Mathlib.Omega.{arith}
use mathlib.Core.Path.{◌≡◌, refl, sym, ap, ◌∙◌}
use mathlib.Core.List.{List, [], ◌∷◌}
use Rattle.std.specs.Prelude.{Some, None}
use Rattle.std.specs.Bool.{then_some}
use mathlib.Core.Bool.{Bool, true, false, not, and-true, false≢true}
use lib.Dec.{eqb, ltb}
use borrow.Author.Tests.{ltb-true, ltb-false}
use lib.ListN.{length, get_or, drop, drop_of_length-le}
use lib.Seq.{drop-drop}
use Rattle.grammar.specs.Bytes as bytes
use Rattle.grammar.specs.Bytes.{Bytes, next, span, every, is_digit}
use Rattle.grammar.specs.Numbers.{value_after, value, no_leading_zero, is_number}
use Rattle.grammar.specs.Outcome.{done, refused}
use Rattle.grammar.specs.Reading.{token, read_number}
use Rattle.grammar.proofs.Reading.{span-split}
use Rattle.text.specs.memory.Numbers.{beyond, digits_at, number_at, number_end, numbers_at, DigitsTold, NumberFound, ToldValue, ToldNumber}
use Rattle.text.specs.declared.read.Read.{Read}
use Rattle.text.proofs.Places.{span_more}

-- Values.

value-least : (ds : Bytes) (n : ℕ) → n ≤ value_after n ds
value-least [] n = omega arith
value-least (d ∷ ds) n = omega (arith, value-least ds (n * 10 + (d - 48)))

value_capped : (n : ℕ) (ds : Bytes) → min (value_after (min n beyond) ds) beyond ≡ min (value_after n ds) beyond
value_capped n ds = pick (dec_le n beyond)
  where
    pick : Dec (n ≤ beyond) → min (value_after (min n beyond) ds) beyond ≡ min (value_after n ds) beyond
    pick (yes h) = rw (min-eq_left h)
    pick (no h) =
        let k : beyond ≤ n = omega arith in
        rw (min-eq_right k) (omega (arith, value-least ds n, value-least ds beyond))

-- Digits, one by one.

pub record DigitsPassed (text : Bytes) (at v i : ℕ) : Type 0 where
  pub value : number_at text at ≡ min (value_after v (digits_at text i)) beyond
  pub next : number_end text at ≡ number_end text i
  pub small : v ≤ beyond
  pub within : i ≤ max at (length text)

module _ (text : Bytes) (at : ℕ) where
  pub digits-first : DigitsPassed text at 0 at
  unfolding number_at
  digits-first = record { value = refl; next = refl; small = omega arith; within = omega arith }

  module _ (v i : ℕ) (passed : DigitsPassed text at v i) where
    pub digits_on : i < length text → is_digit (get_or text i 0) ≡ true
        → DigitsPassed text at (min (v * 10 + (get_or text i 0 - 48)) beyond) (i + 1)
    unfolding number_end
    digits_on h e =
        let more = span_more text i h is_digit e in
        record {
          value = passed.value ∙ rw more (sym (value_capped (v * 10 + (get_or text i 0 - 48)) (digits_at text (i + 1))));
          next = passed.next ∙ rw more (omega arith);
          small = omega arith;
          within = omega (arith, passed.within);
        }

    pub digits-stop : digits_at text i ≡ [] → DigitsTold text at (record { next = i; value = v })
    unfolding number_end
    digits-stop e =
        record {
          value = sym (passed.value ∙ rw e (omega (arith, passed.small)));
          next = sym (passed.next ∙ rw (e, add-zero i));
          within = passed.within;
        }

-- What a run of digits is read as.

next-span : (class : ℕ → Bool) (s : Bytes) → 0 < length (span class s) → next (span class s) ≡ next s
unfolding span
next-span class [] h = refl
next-span class (b ∷ s) h = pick (class b) h
  where
    pick : (c : Bool) → let ds : Bytes = elim c [ true ↦ b ∷ span class s | false ↦ [] ] in 0 < length ds → next ds ≡ b
    pick true h = refl
    pick false h = absurd (omega arith)

leading_none : (ds : Bytes) → length ds ≡ 0 → is_number ds ≡ false
leading_none [] h = refl
leading_none (d ∷ ds) h = absurd (omega arith)

leading_one : (ds : Bytes) → length ds ≡ 1 → no_leading_zero ds ≡ true
leading_one [] h = absurd (omega arith)
leading_one (d ∷ []) h = refl
leading_one (d ∷ e ∷ ds) h = absurd (omega arith)

leading_more : (ds : Bytes) → 1 < length ds → no_leading_zero ds ≡ not (eqb (next ds) 48)
leading_more [] h = absurd (omega arith)
leading_more (d ∷ []) h = absurd (omega arith)
leading_more (d ∷ e ∷ ds) h = refl

module _ (text : Bytes) (at : ℕ) where
  every_digit : every is_digit (digits_at text at) ≡ true
  every_digit = (span-split is_digit (drop at text)).0

  -- by how many digits there are
  module _ (next : ℕ) (ends : next ≡ number_end text at) where
    pub spelled_none : next ≤ at → false ≡ is_number (digits_at text at)
    unfolding number_end
    spelled_none h = sym (leading_none (digits_at text at) (omega arith))

    pub spelled_one : next - at ≡ 1 → true ≡ is_number (digits_at text at)
    unfolding number_end
    spelled_one h = rw (leading_one (digits_at text at) (omega arith), every_digit)

    pub spelled-more : at < next → (next - at ≡ 1 → ⊥) → not (eqb (bytes.next (drop at text)) 48) ≡ is_number (digits_at text at)
    unfolding number_end
    spelled-more h one =
        rw (every_digit, leading_more (digits_at text at) (omega arith), next-span is_digit (drop at text) (omega arith))
        (sym (and-true (not (eqb (bytes.next (drop at text)) 48))))

  -- what `read_number` makes of them
  module _ (refusal : ℕ) where
    read_number-spelled : is_number (digits_at text at) ≡ true → read_number refusal (drop at text) ≡ done (value (digits_at text at), drop (number_end text at) text)
    unfolding read_number token number_end
    read_number-spelled e = rw (e, drop-drop)

    read_number_misspelled : is_number (digits_at text at) ≡ false → read_number refusal (drop at text) ≡ refused refusal
    unfolding read_number token
    read_number_misspelled e = rw e

  module _ (d : Read ℕ) (told : DigitsTold text at d) (starts : at ≤ length text) where
    pub number_misspelled : is_number (digits_at text at) ≡ false → ToldNumber text at None
    number_misspelled e = λ refusal. read_number_misspelled refusal e

    module _ (spelled : is_number (digits_at text at) ≡ true) where
      some : 0 < length (digits_at text at)
      some = pick (digits_at text at) spelled
        where
          pick : (ds : Bytes) → is_number ds ≡ true → 0 < length ds
          pick [] e = absurd (false≢true e)
          pick (b ∷ ds) e = omega arith

      number-found : NumberFound text at (value (digits_at text at)) d.next
      unfolding number_end
      number-found =
          record {
            is = λ refusal. rw told.next (read_number-spelled refusal spelled);
            ends = told.next;
            after = omega (arith, some, told.next);
            within = omega (arith, told.within);
          }

      pub number_small : d.value < beyond → ToldNumber text at (Some (record { value = Some d.value; next = d.next }))
      unfolding number_at
      number_small h =
          let e : d.value ≡ value (digits_at text at) = omega (arith, told.value) in
          record { found = rw e number-found; stands = told.value; small = h }

      pub number-large : beyond ≤ d.value → ToldNumber text at (Some (record { value = None; next = d.next }))
      unfolding number_at
      number-large h = record { number = value (digits_at text at); found = number-found; large = omega (arith, told.value) }

      pub number_told : ToldValue text at d.next (then_some (ltb d.value beyond) d.value)
      number_told = pick (ltb d.value beyond) refl
        where
          pick : (b : Bool) → ltb d.value beyond ≡ b → ToldValue text at d.next (then_some b d.value)
          pick true e = number_small (ltb-true d.value beyond e)
          pick false e = number-large (ltb-false d.value beyond e)

-- Numbers one after the other.

pub length-numbers_at : (text : Bytes) (at many : ℕ) → length (numbers_at text at many) ≡ many
unfolding numbers_at
length-numbers_at text at zero = refl
length-numbers_at text at (suc many) = ap suc (length-numbers_at text (number_end text at + 1) many)

pub numbers_at-none : (text : Bytes) (at many : ℕ) → many ≡ 0 → numbers_at text at many ≡ []
unfolding numbers_at
numbers_at-none text at many e = rw e

-- the first of them, and the others
pub numbers_at-more : (text : Bytes) (at many : ℕ) → 0 < many → numbers_at text at many ≡ number_at text at ∷ numbers_at text (number_end text at + 1) (many - 1)
unfolding numbers_at
numbers_at-more text at zero h = absurd (omega arith)
numbers_at-more text at (suc many) h = let e : suc many - 1 ≡ many = omega arith in rw e

-- behind the end of a text every place has the same numbers
numbers_behind : (text : Bytes) (a b many : ℕ) → length text ≤ a → length text ≤ b → numbers_at text a many ≡ numbers_at text b many
unfolding numbers_at number_at number_end span
numbers_behind text a b zero h k = refl
numbers_behind text a b (suc many) h k =
    rw (drop_of_length-le text h, drop_of_length-le text k) (ap (λ (l : List ℕ). 0 ∷ l) (numbers_behind text (a + 0 + 1) (b + 0 + 1) many (omega arith) (omega arith)))

-- so a place matters no further than the end
pub numbers_capped : (text : Bytes) (at most many : ℕ) → length text ≤ most → numbers_at text (min at most) many ≡ numbers_at text at many
numbers_capped text at most many h = pick (dec_le at most)
  where
    pick : Dec (at ≤ most) → numbers_at text (min at most) many ≡ numbers_at text at many
    pick (yes k) = rw (min-eq_left k)
    pick (no k) = numbers_behind text (min at most) at many (omega arith) (omega arith)

pub ruleset counted = (length-numbers_at, numbers_at-none, numbers_at-more, numbers_capped)
