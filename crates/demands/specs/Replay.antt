-- The replay of a derivation's lines, with 10 to 15.
use Rattle.std.specs.Prelude.{ℕ, suc, List}
use Rattle.grammar.specs.Bytes.{Bytes}
use Rattle.grammar.specs.Outcome.{Outcome, done, refused, mapped}
use Rattle.grammar.specs.Reading.{Reading, give, refuse, judge, ◌>>=◌, ◌>>◌}
use Rattle.grammar.specs.Lines.{Judged, read_text}
use Rattle.grammar.specs.Problem.{Problem}
use Rattle.grammar.specs.Derivation.{RuleLine, Line, step, footer, read_line, read_version, read_grounder}
use Rattle.logic.specs.Formula.{Formula}
use Rattle.demands.specs.Theory.{State, initial, stepped}

-- before the version line; before the grounder's; among the rule lines, of which so many are done; after the footer
pub data Place (S : Type 0) : Type 0 where
  top heading : Place S
  among : S → ℕ → Place S
  bottom : S → ℕ → List ℕ → Place S

-- what a derivation comes to: the last state, the count of rule lines, the footer's names
pub record Replayed (S : Type 0) : Type 0 where
  pub last : S
  pub rules : ℕ
  pub final : List ℕ

abbrev pub whole_derivation : {S : Type 0} → Place S → Outcome ℕ (Replayed S)
whole_derivation top = refused 10
whole_derivation heading = refused 10
whole_derivation (among s rules) = refused 10
whole_derivation (bottom s rules names) = done (record { last = s; rules = rules; final = names })

-- with what a rule line does to a state
module _ {S : Type 0} (move : S → RuleLine → Outcome ℕ S) where
  abbrev pub line_done : S → ℕ → Line → Outcome ℕ (Place S)
  line_done s rules (step l) = mapped (λ u. among u (suc rules)) (move s l)
  line_done s rules (footer names) = done (bottom s rules names)

  unfoldable pub derivation_line : S → Place S → Reading (Place S)
  derivation_line first top = do
    read_version
    give heading
  derivation_line first heading = do
    read_grounder
    give (among first 0)
  derivation_line first (among s rules) = do
    l ← read_line
    judge (line_done s rules l)
  derivation_line first (bottom s rules names) = refuse 10

  -- a derivation, read and replayed line by line
  unfoldable pub derivation_from : S → Bytes → Judged (Replayed S)
  derivation_from first s = read_text 3 (derivation_line first) whole_derivation top s

-- a theory's derivation
abbrev pub derivation_of : Problem → List Formula → Bytes → Judged (Replayed State)
derivation_of P T s = derivation_from (stepped P) (initial T) s
