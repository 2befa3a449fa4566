-- A reader at a place of a text: what its parts find one after another, the whole finds; and what a part refuses, the whole refuses.
-- Assumes nothing.
use Prim.Native.Nat.{ℕ, ◌+◌, ◌≤◌, ◌<◌}
use native.Mathlib.Omega.{arith}
use mathlib.Core.Path.{◌≡◌, refl, ap, ◌∙◌}
use mathlib.Core.List.{List, [], ◌∷◌}
use mathlib.Core.Bool.{Bool, true, false}
use lib.ListN.{length, drop, length-append, length-drop}
use lib.Seq.{drop-drop}
use Rattle.grammar.specs.Bytes.{Bytes, begins, span}
use Rattle.grammar.specs.Outcome.{Outcome, done, refused, mapped}
use Rattle.grammar.specs.Outcome as outcome
use Rattle.grammar.specs.Reading.{Reading, give, ◌>>=◌, ◌>>◌, require, word, token, ◌⇒◌, one_of}
use Rattle.grammar.proofs.Reading.{begins-split}
use Rattle.text.specs.memory.Found.{Found, Taken, Refused, WordFound}

module _ {A : Type 0} {text : Bytes} {at : ℕ} where
  pub found-give : (a : A) → at ≤ length text → Found (give a) text at a at
  found-give a h = record { is = refl; after = omega arith; within = h }

  pub found-taken : {reader : Reading A} {a : A} {next : ℕ} → Found reader text at a next → at < next → Taken reader text at a next
  found-taken f h = record { is = f.is; after = h; within = f.within }

  pub taken-found : {reader : Reading A} {a : A} {next : ℕ} → Taken reader text at a next → Found reader text at a next
  taken-found f = record { is = f.is; after = omega (arith, f.after); within = f.within }

  module _ {B : Type 0} {r : Reading A} (k : A → Reading B) where
    pub found_then : {a : A} {mid next : ℕ} {b : B} → Found r text at a mid → Found (k a) text mid b next → Found (r >>= k) text at b next
    found_then f g = record { is = rw f.is g.is; after = omega (arith, f.after, g.after); within = g.within }

    pub refused-first : {number : ℕ} → Refused number r text at → Refused number (r >>= k) text at
    refused-first f = record { is = rw f.is }

    pub refused_then : {number : ℕ} {a : A} {mid : ℕ} → Found r text at a mid → Refused number (k a) text mid → Refused number (r >>= k) text at
    refused_then f g = record { is = rw f.is g.is }

module _ (text : Bytes) (at number : ℕ) where
  pub found-require : {test : Bool} → test ≡ true → at ≤ length text → Found (require number test) text at tt at
  found-require e h = record { is = rw e; after = omega arith; within = h }

  pub refused-require : {test : Bool} → test ≡ false → Refused number (require number test) text at
  refused-require e = record { is = rw e }

  module _ (w : Bytes) where
    pub found_word : {next : ℕ} → WordFound w text at next → Found (word number w) text at tt next
    unfolding word
    found_word f = record { is = rw (f.stands, drop-drop, ← f.ends); after = omega (arith, f.ends); within = f.within }

    pub refused-word : begins w (drop at text) ≡ false → Refused number (word number w) text at
    unfolding word
    refused-word e = record { is = rw e }

  -- a run of a class
  module _ (class : ℕ → Bool) (test : Bytes → Bool) where
    abbrev taken : Bytes
    taken = span class (drop at text)

    pub found-token : at + length taken ≤ length text → test taken ≡ true → Found (token number class test) text at taken (at + length taken)
    unfolding token
    found-token h e = record { is = rw (e, drop-drop); after = omega arith; within = h }

    pub refused-token : test taken ≡ false → Refused number (token number class test) text at
    unfolding token
    refused-token e = record { is = rw e }

module _ (text : Bytes) (at : ℕ) where
  pub word-found : (w : Bytes) → at ≤ length text → begins w (drop at text) ≡ true → WordFound w text at (at + length w)
  word-found w h e =
      record {
        stands = e;
        ends = refl;
        within = omega (arith, simp length-append at (ap length (begins-split w (drop at text) e)), length-drop at text);
      }

  -- what one reader finds is what another finds further on
  module _ {A : Type 0} {reader : Reading A} (later : Reading A) {mid : ℕ} (same : reader (drop at text) ≡ later (drop mid text)) where
    pub found-later : {a : A} {next : ℕ} → at ≤ mid → Found later text mid a next → Found reader text at a next
    found-later h f = record { is = same ∙ f.is; after = omega (arith, f.after); within = f.within }

    pub refused-later : {number : ℕ} → Refused number later text mid → Refused number reader text at
    refused-later f = record { is = same ∙ f.is }

  -- by the first word that the text begins with
  module _ {A : Type 0} (w : Bytes) (r : Reading A) (kinds : List (Bytes × Reading A)) (last : Reading A) where
    pub one_of_this : {next : ℕ} → WordFound w text at next → one_of (w ⇒ r ∷ kinds) last (drop at text) ≡ r (drop next text)
    unfolding one_of
    one_of_this f = rw (f.stands, drop-drop, ← f.ends)

    pub one_of_other : begins w (drop at text) ≡ false → one_of (w ⇒ r ∷ kinds) last (drop at text) ≡ one_of kinds last (drop at text)
    unfolding one_of
    one_of_other e = rw e

    -- and by the last reader, where there is no other word
    pub one_of_only : kinds ≡ [] → begins w (drop at text) ≡ false → one_of (w ⇒ r ∷ kinds) last (drop at text) ≡ last (drop at text)
    unfolding one_of
    one_of_only none e = rw (e, none)

-- A thing that is made of another, which passed the same test.

pub made_mapped : {A B : Type 0} (r : Reading A) (test : A → Reading (Unit {0})) (f : A → B) (s : Bytes)
    → (r >>= λ a. test a >> give (f a)) s ≡ mapped (λ p. (f p.0, p.1)) ((r >>= λ a. test a >> give a) s)
made_mapped {A} r test f s = first (r s)
  where
    second : (a : A) (o : Outcome ℕ (Unit {0} × Bytes)) → outcome.◌>>=◌ o (λ p. give (f a) p.1)
        ≡ mapped (λ p. (f p.0, p.1)) (outcome.◌>>=◌ o (λ p. give a p.1))
    second a (done p) = refl
    second a (refused e) = refl

    first : (o : Outcome ℕ (A × Bytes))
        → outcome.◌>>=◌ o (λ p. (test p.0 >> give (f p.0)) p.1)
        ≡ mapped (λ p. (f p.0, p.1)) (outcome.◌>>=◌ o (λ p. (test p.0 >> give p.0) p.1))
    first (done p) = second p.0 (test p.0 p.1)
    first (refused e) = refl

module _ (text : Bytes) (at : ℕ) {A B : Type 0} (f : A → B) {mid : ℕ} {r : Reading B} {q : Reading A}
    (same : r (drop at text) ≡ mapped (λ p. (f p.0, p.1)) (q (drop mid text))) where
  pub found_made : at ≤ mid → {a : A} {next : ℕ} → Found q text mid a next → Found r text at (f a) next
  found_made h g = record { is = same ∙ rw g.is; after = omega (arith, g.after); within = g.within }

  pub refused_made : {number : ℕ} → Refused number q text mid → Refused number r text at
  refused_made g = record { is = same ∙ rw g.is }
