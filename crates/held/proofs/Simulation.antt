-- A replay over one kind of states is that over another, where what a rule line does to the one is what it does to the other: line by line.
-- Assumes nothing.
use Prim.Native.Nat.{ℕ, zero, suc}
use mathlib.Core.Path.{◌≡◌, refl, sym, ap, ◌∙◌}
use mathlib.Core.List.{[], ◌∷◌}
use lib.ListN.{length}
use Rattle.grammar.specs.Bytes.{Bytes}
use Rattle.grammar.specs.Outcome.{Outcome, done, refused, mapped, ◌>>=◌}
use Rattle.grammar.specs.Reading.{Reading}
use Rattle.grammar.specs.Lines.{on_line, read_lines}
use Rattle.grammar.specs.Derivation.{RuleLine, Line, step, footer, read_line, read_version, read_grounder}
use Rattle.grammar.proofs.Outcome.{Allowed, allowed_mapped, allowed_bind, allowed_any, mapped-mapped, alike_bind}
use Rattle.grammar.proofs.Lines.{read_text_keeps}
use Rattle.demands.specs.Replay.{Place, top, heading, among, bottom, Replayed, whole_derivation, line_done, derivation_line, derivation_from}

-- A text read line by line, with other states.
module _ {S U A B : Type 0} (file : ℕ) (line : S → Reading S) (other : U → Reading U) (finish : S → Outcome ℕ A) (ends : U → Outcome ℕ B) (g : S → U) (f : A → B)
    (Q : S → Type 0) (keeps : (state : S) (s : Bytes) → Q state → Allowed (λ p. Q p.0) (line state s))
    (alike : (state : S) (s : Bytes) → Q state → other (g state) s ≡ mapped {B = U × Bytes} (λ (p : S × Bytes). (g p.0, p.1)) (line state s))
    (finished : (state : S) → ends (g state) ≡ mapped f (finish state)) where
  finishes : (k : ℕ) (state : S) → on_line file k (ends (g state)) ≡ mapped f (on_line file k (finish state))
  finishes k state = ap (on_line file k) (finished state) ∙ pick (finish state)
    where
      pick : (o : Outcome ℕ A) → on_line file k (mapped f o) ≡ mapped f (on_line file k o)
      pick (done a) = refl
      pick (refused n) = refl

  lines_alike : (most k : ℕ) (state : S) (s : Bytes) → Q state → read_lines file other ends most k (g state) s ≡ mapped f (read_lines file line finish most k state s)
  unfolding read_lines
  lines_alike zero k state s q = finishes k state
  lines_alike (suc most) k state [] q = finishes k state
  lines_alike (suc most) k state (b ∷ s) q = rw (alike state (b ∷ s) q) (pick (line state (b ∷ s)) (keeps state (b ∷ s) q) (λ u t h. lines_alike most (suc k) u t h))
    where
      pick : (o : Outcome ℕ (S × Bytes)) → Allowed (λ p. Q p.0) o
          → ((u : S) (t : Bytes) → Q u → read_lines file other ends most (suc k) (g u) t ≡ mapped f (read_lines file line finish most (suc k) u t))
          → (on_line file k (mapped {B = U × Bytes} (λ (p : S × Bytes). (g p.0, p.1)) o) >>= λ p. read_lines file other ends most (suc k) p.0 p.1)
          ≡ mapped f (on_line file k o >>= λ p. read_lines file line finish most (suc k) p.0 p.1)
      pick (done p) h rest = rest p.0 p.1 h
      pick (refused n) h rest = refl

-- A derivation, with other states.

abbrev pub replayed_with : {S U : Type 0} → (S → U) → Replayed S → Replayed U
replayed_with g R = record { last = g R.last; rules = R.rules; final = R.final }

module _ {S U : Type 0} (move : S → RuleLine → Outcome ℕ S) (other : U → RuleLine → Outcome ℕ U) (g : S → U) (Q : S → Type 0)
    (keeps : (s : S) (l : RuleLine) → Q s → Allowed Q (move s l)) (alike : (s : S) (l : RuleLine) → Q s → other (g s) l ≡ mapped g (move s l)) where
  abbrev place_with : Place S → Place U
  place_with top = top
  place_with heading = heading
  place_with (among s rules) = among (g s) rules
  place_with (bottom s rules names) = bottom (g s) rules names

  abbrev Good : Place S → Type 0
  Good top = Unit {0}
  Good heading = Unit {0}
  Good (among s rules) = Q s
  Good (bottom s rules names) = Q s

  whole_alike : (p : Place S) → whole_derivation (place_with p) ≡ mapped (replayed_with g) (whole_derivation p)
  whole_alike top = refl
  whole_alike heading = refl
  whole_alike (among s rules) = refl
  whole_alike (bottom s rules names) = refl

  whole_good : (p : Place S) → Good p → Allowed (λ R. Q R.last) (whole_derivation p)
  whole_good top q = tt
  whole_good heading q = tt
  whole_good (among s rules) q = tt
  whole_good (bottom s rules names) q = q

  done_good : (s : S) (rules : ℕ) (l : Line) → Q s → Allowed Good (line_done move s rules l)
  done_good s rules (step l) q = allowed_mapped Q Good (λ u. among u (suc rules)) (λ u h. h) (move s l) (keeps s l q)
  done_good s rules (footer names) q = q

  done_alike : (s : S) (rules : ℕ) (l : Line) → Q s → line_done other (g s) rules l ≡ mapped place_with (line_done move s rules l)
  done_alike s rules (step l) q =
      ap (mapped (λ u. among u (suc rules))) (alike s l q) ∙ mapped-mapped (λ u. among u (suc rules)) g (move s l) ∙ sym (mapped-mapped place_with (λ u. among u (suc rules)) (move s l))
  done_alike s rules (footer names) q = refl

  module _ (first : S) (good : Q first) where
    abbrev GoodThen : Place S × Bytes → Type 0
    GoodThen r = Good r.0

    line_good : (p : Place S) (s : Bytes) → Good p → Allowed GoodThen (derivation_line move first p s)
    unfolding derivation_line
    line_good top s q = allowed_bind (λ r. Unit {0}) GoodThen (λ r. done (heading, r.1)) (λ r h. tt) (read_version s) (allowed_any (read_version s))
    line_good heading s q = allowed_bind (λ r. Unit {0}) GoodThen (λ r. done (among first 0, r.1)) (λ r h. good) (read_grounder s) (allowed_any (read_grounder s))
    line_good (among st rules) s q =
        allowed_bind (λ r. Unit {0}) GoodThen (λ r. mapped (λ u. (u, r.1)) (line_done move st rules r.0))
        (λ r h. allowed_mapped Good GoodThen (λ u. (u, r.1)) (λ u w. w) (line_done move st rules r.0) (done_good st rules r.0 q)) (read_line s) (allowed_any (read_line s))
    line_good (bottom st rules names) s q = tt

    abbrev then_with : Place S × Bytes → Place U × Bytes
    then_with r = (place_with r.0, r.1)

    line_alike : (p : Place S) (s : Bytes) → Good p → derivation_line other (g first) (place_with p) s ≡ mapped then_with (derivation_line move first p s)
    unfolding derivation_line
    line_alike top s q = alike_bind then_with (λ r. done (heading, r.1)) (λ r. done (heading, r.1)) (λ r. refl) (read_version s)
    line_alike heading s q = alike_bind then_with (λ r. done (among first 0, r.1)) (λ r. done (among (g first) 0, r.1)) (λ r. refl) (read_grounder s)
    line_alike (among st rules) s q =
        alike_bind then_with (λ r. mapped (λ u. (u, r.1)) (line_done move st rules r.0)) (λ r. mapped (λ u. (u, r.1)) (line_done other (g st) rules r.0))
        (λ r. ap (mapped (λ u. (u, r.1))) (done_alike st rules r.0 q) ∙ mapped-mapped (λ u. (u, r.1)) place_with (line_done move st rules r.0)
        ∙ sym (mapped-mapped then_with (λ u. (u, r.1)) (line_done move st rules r.0))) (read_line s)
    line_alike (bottom st rules names) s q = refl

    -- the replay of a text over the other states
    pub derivation_alike : (s : Bytes) → derivation_from other (g first) s ≡ mapped (replayed_with g) (derivation_from move first s)
    unfolding derivation_from
    derivation_alike s =
        lines_alike 3 (derivation_line move first) (derivation_line other (g first)) whole_derivation whole_derivation place_with (replayed_with g) Good line_good line_alike whole_alike (length s) 1 top s tt

    -- what every rule line keeps holds of the last state
    pub derivation_keeps : (s : Bytes) → Allowed (λ R. Q R.last) (derivation_from move first s)
    unfolding derivation_from
    derivation_keeps s = read_text_keeps 3 (derivation_line move first) whole_derivation Good (λ R. Q R.last) line_good whole_good top s tt
