-- What acceptance means: a derivation that grounds a theory, its final formulas, and what a job then answers and leaves.
use Rattle.std.specs.Prelude.{ℕ, ◌≤◌, ◌≡◌, List, ◌++◌, true, length, drop}
use Rattle.grammar.specs.Sizes.{text_size, work_size}
use Rattle.grammar.specs.Bytes.{Bytes}
use Rattle.grammar.specs.Problem.{Problem}
use Rattle.grammar.specs.Derivation.{Derivation, derivation_fits, derivation_text}
use Rattle.logic.specs.Formula.{Formula}
use Rattle.demands.specs.Theory.{State, formulas_of, names_of, live_theory, initial}
use Rattle.demands.specs.TheoryText.{theory_text}
use Rattle.demands.specs.Steps.{Steps}
use Rattle.demands.specs.Ground.{is_ground}
use Rattle.demands.specs.Answer.{Result, work_after}

-- the derivation's text is heading, rule lines and footer; each line is allowed, from the theory to a last one; the footer lists its names;
-- its formulas are ground clauses, or `false` alone after UNSAT
pub record Grounds (P : Problem) (T : List Formula) (derivation : Bytes) : Type 0 where
  pub written : Derivation
  pub last : State
  pub fits : derivation_fits written ≡ true
  pub text : derivation ≡ derivation_text written
  pub steps : Steps P (initial T) written.lines last
  pub listed : written.final ≡ names_of (live_theory last)
  pub ground : is_ground P last ≡ true

-- its final formulas, and their text
abbrev pub final_formulas : {P : Problem} {T : List Formula} {derivation : Bytes} → Grounds P T derivation → List Formula
final_formulas g = formulas_of (live_theory g.last)

abbrev pub final_text : {P : Problem} {T : List Formula} {derivation : Bytes} → Grounds P T derivation → Bytes
final_text g = theory_text (final_formulas g)

-- what a job answers and leaves where it accepts: the counts are the rule lines and the names that the footer lists
abbrev pub accepts : {P : Problem} {T : List Formula} {derivation : Bytes} → Grounds P T derivation → List ℕ → List ℕ → Result
accepts g output work = record {
  answer = record { number = 0; file = 0; line = 0; rules = length g.written.lines; formulas = length g.written.final };
  output = final_text g ++ drop (length (final_text g)) output;
  work = work_after work;
}

-- texts within their sizes, and working memory long enough
pub record Fits (problem theory derivation claim : Bytes) (work : List ℕ) : Type 0 where
  pub short_problem : length problem ≤ text_size
  pub short_theory : length theory ≤ text_size
  pub short_derivation : length derivation ≤ text_size
  pub short_claim : length claim ≤ text_size
  pub long_work : work_size ≤ length work
