-- The lines that declare, at a place of a text: what `read_domain` and `read_predicate` make of what stands there.
-- Assumes nothing.
use Prim.Native.Nat.{ℕ, ◌+◌, ◌-◌, ◌≤◌}
use native.Mathlib.Omega.{arith}
use mathlib.Core.Path.{◌≡◌, refl, sym, ◌∙◌}
use mathlib.Core.List.{[], ◌∷◌}
use mathlib.Core.Bool.{Bool, true, false, and-true}
use lib.ListN.{length, take, drop}
use Rattle.std.specs.Prelude.{Option, Some, None}
use Rattle.grammar.specs.Bytes.{Bytes, bytes, next, begins, span, is_capital, is_small_or_digit, is_letter_or_digit}
use Rattle.grammar.specs.Outcome.{mapped}
use Rattle.grammar.specs.Reading.{word, read_number}
use Rattle.grammar.specs.Problem.{Predicate, is_name, read_name, read_domain, read_predicate}
use Rattle.grammar.proofs.Laws.{or_left}
use Rattle.grammar.proofs.Reading.{span-split, span-take}
use Rattle.text.specs.memory.Found.{Found, Taken, Refused, WordFound}
use Rattle.text.specs.memory.Told.{Ends}
use Rattle.text.specs.memory.Numbers.{NumberFound, ToldNumber}
use Rattle.text.specs.declared.read.Read.{Read}
use Rattle.text.proofs.Found.{found-give, found-taken, taken-found, found_then, refused-first, refused_then, found_word, refused-word, found-token, refused-token}
use Rattle.text.proofs.Found.{made_mapped, found_made, refused_made}
use Rattle.text.proofs.FoundBytes.{byte_found, byte_missing}
use Rattle.problem.specs.memory.Declarations.{NumberTold, read_last_number, ToldLast, PredicateFound, ToldDeclaration}

-- A number, and one that ends its line.

module _ (text : Bytes) (at : ℕ) where
  number_found_lem : {n end : ℕ} → NumberFound text at n end → Taken (read_number 3) text at n end
  number_found_lem f = record { is = f.is 3; after = f.after; within = f.within }

  pub number_told : (read : Read (Option ℕ)) → ToldNumber text at (Some read) → NumberTold (read_number 3) text at read.value read.next
  number_told read f = pick read.value f
    where
      pick : (value : Option ℕ) → ToldNumber text at (Some (record { value = value; next = read.next })) → NumberTold (read_number 3) text at value read.next
      pick (Some n) f = record { number = n; is = refl; found = number_found_lem f.found }
      pick None f = record { number = f.number; is = f.large; found = number_found_lem f.found }

  pub last_misspelled : ToldNumber text at None → ToldLast read_last_number text at None
  unfolding read_last_number
  last_misspelled told = record { is = rw (told 3) }

  module _ (read : Read (Option ℕ)) (f : ToldNumber text at (Some read)) where
    pub last_open : Refused 3 (word 3 (bytes "\n")) text read.next → ToldLast read_last_number text at None
    unfolding read_last_number
    last_open g = refused_then _ (taken-found (number_told read f).found) (refused-first _ g)

    pub last_ended : (next : ℕ) → Ends (word 3 (bytes "\n")) text read.next next → NumberTold read_last_number text at read.value next
    unfolding read_last_number
    last_ended next g =
        let told = number_told read f in
        record {
          number = told.number;
          is = told.is;
          found = found-taken (found_then _ (taken-found told.found) (found_then _ g.found (found-give told.number g.found.within))) (omega (arith, told.found.after, g.found.after));
        }

  -- behind a word
  pub domain_misspelled : begins (bytes "domain=") (drop at text) ≡ false → ToldLast read_domain text at None
  unfolding read_domain
  domain_misspelled e = refused-first _ (refused-word text at 3 (bytes "domain=") e)

  pub domain_behind : WordFound (bytes "domain=") text at (at + 7) → (r : Option (Read (Option ℕ))) → ToldLast read_last_number text (at + 7) r
      → ToldLast read_domain text at r
  unfolding read_domain read_last_number
  domain_behind w (Some read) f =
      record {
        number = f.number;
        is = f.is;
        found = found-taken (found_then _ (found_word text at 3 (bytes "domain=") w) (taken-found f.found)) (omega (arith, f.found.after));
      }
  domain_behind w None f = refused_then _ (found_word text at 3 (bytes "domain=") w) f

-- what the code's answers follow from
pub ruleset ends = (last_misspelled, last_open, last_ended)

-- A predicate: a name, `/` and a number.

-- letters and digits are a name if the first of them is a capital letter
is_name-span : (s : Bytes) → is_name (span is_letter_or_digit s) ≡ is_capital (next s)
unfolding span
is_name-span [] = refl
is_name-span (b ∷ s) = pick (is_letter_or_digit b) refl
  where
    pick : (c : Bool) → is_letter_or_digit b ≡ c → let w : Bytes = elim c [ true ↦ b ∷ span is_letter_or_digit s | false ↦ [] ] in is_name w ≡ is_capital b
    pick true e = rw (e, (span-split is_letter_or_digit s).0) (and-true (is_capital b))
    pick false e = sym (or_left (is_capital b) (is_small_or_digit b) e)

module _ (text : Bytes) (at : ℕ) where
  pub predicate_unnamed : is_capital (next (drop at text)) ≡ false → ToldDeclaration text at None
  unfolding read_predicate read_name
  predicate_unnamed e = refused-first _ (refused-token text at 3 is_letter_or_digit is_name (is_name-span (drop at text) ∙ e))

  module _ (named : is_capital (next (drop at text)) ≡ true)
      (end : ℕ) (ends : end ≡ at + length (span is_letter_or_digit (drop at text))) (within : end ≤ length text) where
    name-found : Found (read_name 3) text at (take (end - at) (drop at text)) end
    unfolding read_name
    name-found =
        let e : end - at ≡ length (span is_letter_or_digit (drop at text)) = omega arith in
        rw (e, span-take is_letter_or_digit (drop at text), ends)
        (found-token text at 3 is_letter_or_digit is_name (omega arith) (is_name-span (drop at text) ∙ named))

    pub predicate_unparted : (next (drop end text) ≡ 47 → ⊥) → ToldDeclaration text at None
    unfolding read_predicate
    predicate_unparted h = refused_then _ name-found (refused-first _ (refused-word text end 3 (bytes "/") (byte_missing text end 47 h)))

    module _ (parted : next (drop end text) ≡ 47) where
      predicate_of : ℕ → Predicate
      predicate_of arity = record { name = take (end - at) (drop at text); arity = arity }

      behind : read_predicate (drop at text) ≡ mapped (λ p. (predicate_of p.0, p.1)) (read_last_number (drop (end + 1) text))
      unfolding read_predicate read_last_number predicate_of
      behind =
          rw (name-found.is, (found_word text end 3 (bytes "/") (byte_found text end 47 (omega arith) parted)).is)
          (made_mapped (read_number 3) (λ n. word 3 (bytes "\n")) predicate_of (drop (end + 1) text))

      pub predicate_told : (read : Read (Option ℕ)) → NumberTold read_last_number text (end + 1) read.value read.next
          → PredicateFound text at (record { size = end - at; arity = read.value }) read.next
      unfolding predicate_of
      predicate_told read f =
          record {
            arity = f.number;
            is = f.is;
            found = found_made text at predicate_of behind (omega arith) (taken-found f.found);
            short = omega (arith, f.found.after);
          }

      pub predicate_misspelled : ToldLast read_last_number text (end + 1) None → ToldDeclaration text at None
      predicate_misspelled f = refused_made text at predicate_of behind f
