-- The laws by which what is told of a reader's parts is what is told of the whole: each `?` of the code is a step of the chain. `chain` has
-- them all. Assumes nothing.
use Prim.Native.Nat.{ℕ, ◌+◌, ◌≤◌}
use native.Mathlib.Omega.{arith}
use mathlib.Core.Path.{◌≡◌, refl, ap, ◌∙◌}
use mathlib.Core.List.{List, [], ◌∷◌}
use mathlib.Core.Bool.{Bool, true, false}
use lib.ListN.{length, drop}
use Rattle.grammar.specs.Bytes.{Bytes, begins}
use Rattle.std.specs.Prelude.{Option, Some, None}
use Rattle.grammar.specs.Outcome.{Outcome, done, refused, mapped, provided}
use Rattle.grammar.specs.Reading.{Reading, give, ◌>>=◌, word, ◌⇒◌, one_of}
use Rattle.text.specs.memory.Found.{Found, Refused}
use Rattle.text.specs.memory.Told.{Ends, ToldEnd}
use Rattle.text.proofs.Found.{found_then, refused-first, refused_then, found-give, found-require, refused-require, found-later, refused-later, word-found, found_word, refused-word}

-- A word.

module _ (number : ℕ) (w text : Bytes) (at : ℕ) where
  pub word_told : at ≤ length text → begins w (drop at text) ≡ true → ToldEnd number (word number w) text at (Some (at + length w))
  word_told h e = let f = word-found text at w h e in record { thing = tt; found = found_word text at number w f }

  -- what follows a word that is found is what stands behind it
  behind : (next : ℕ) → Found (word number w) text at tt next → (begins w (drop at text) ≡ true) × (drop (length w) (drop at text) ≡ drop next text)
  unfolding word
  behind next f = pick (begins w (drop at text)) f.is
    where
      rest : Unit {0} → Unit {0} × Bytes
      rest u = (u, drop (length w) (drop at text))

      left : Outcome ℕ (Unit {0} × Bytes) → Bytes
      left (done p) = p.1
      left (refused e) = []

      pick : (b : Bool) → mapped rest (provided b number) ≡ done (tt, drop next text) → (b ≡ true) × (drop (length w) (drop at text) ≡ drop next text)
      pick true e = (refl, ap left e)
      pick false e = cc

  pub stands_not : Refused number (word number w) text at → begins w (drop at text) ≡ false
  unfolding word
  stands_not f = pick (begins w (drop at text)) f.is
    where
      rest : Unit {0} → Unit {0} × Bytes
      rest u = (u, drop (length w) (drop at text))

      pick : (b : Bool) → mapped rest (provided b number) ≡ refused number → b ≡ false
      pick true e = cc
      pick false e = refl

-- One of several readers, by the first word that the text begins with.

module _ {A : Type 0} (number : ℕ) (w text : Bytes) (at : ℕ) (r last : Reading A) (kinds : List (Bytes × Reading A)) where
  module _ {mid : ℕ} (word : Ends (word number w) text at mid) where
    pub one_of_behind : one_of (w ⇒ r ∷ kinds) last (drop at text) ≡ r (drop mid text)
    unfolding one_of
    one_of_behind = let b = behind number w text at mid word.found in rw (b.0, b.1)

    pub found-by_word : {a : A} {next : ℕ} → Found r text mid a next → Found (one_of (w ⇒ r ∷ kinds) last) text at a next
    found-by_word f = record { is = one_of_behind ∙ f.is; after = omega (arith, word.found.after, f.after); within = f.within }

    pub refused-by_word : {e : ℕ} → Refused e r text mid → Refused e (one_of (w ⇒ r ∷ kinds) last) text at
    refused-by_word f = record { is = one_of_behind ∙ f.is }

  module _ (other : Refused number (word number w) text at) where
    pub one_of_on : one_of (w ⇒ r ∷ kinds) last (drop at text) ≡ one_of kinds last (drop at text)
    unfolding one_of
    one_of_on = rw (stands_not number w text at other)

    pub found_past_word : {a : A} {next : ℕ} → Found (one_of kinds last) text at a next → Found (one_of (w ⇒ r ∷ kinds) last) text at a next
    found_past_word f = record { is = one_of_on ∙ f.is; after = f.after; within = f.within }

    pub refused_past_word : {e : ℕ} → Refused e (one_of kinds last) text at → Refused e (one_of (w ⇒ r ∷ kinds) last) text at
    refused_past_word f = record { is = one_of_on ∙ f.is }

module _ {A : Type 0} (text : Bytes) (at : ℕ) (last : Reading A) where
  pub found_last : {a : A} {next : ℕ} → Found last text at a next → Found (one_of [] last) text at a next
  unfolding one_of
  found_last f = record { is = f.is; after = f.after; within = f.within }

  pub refused_last : {e : ℕ} → Refused e last text at → Refused e (one_of [] last) text at
  unfolding one_of
  refused_last f = record { is = f.is }

-- The last step, where the code answers what its own last call does.

module _ (number : ℕ) (text : Bytes) where
  pub last_behind : {A B : Type 0} (k : A → Reading B) {r : Reading A} (at : ℕ) {a : A} (mid : ℕ) → Found r text at a mid
      → (told : Option ℕ) → ToldEnd number (k a) text mid told → ToldEnd number (r >>= k) text at told
  last_behind k at mid f (Some next) e = record { thing = e.thing; found = found_then k f e.found }
  last_behind k at mid f None e = refused_then k f e

  pub last-given : {A B : Type 0} (r : Reading A) (b : B) (at : ℕ) → (told : Option ℕ) → ToldEnd number r text at told → ToldEnd number (r >>= λ a. give b) text at told
  last-given r b at (Some next) e = record { thing = b; found = found_then _ e.found (found-give b e.found.within) }
  last-given r b at None e = refused-first _ e

pub ruleset chain = (found_then, refused-first, refused_then, found-give, found-by_word, refused-by_word, found_past_word, refused_past_word, found_last, refused_last)
