-- The end of a derivation: the footer lists all live names, 16; the final formulas are ground clauses, 17; their text.
use Rattle.std.specs.Prelude.{ℕ, ◌+◌, List, Bool, true}
use Rattle.grammar.specs.Bytes.{Bytes, same, every}
use Rattle.grammar.specs.Outcome.{done, provided, ◌>>◌}
use Rattle.grammar.specs.Lines.{Judged, refusal}
use Rattle.grammar.specs.Problem.{Problem}
use Rattle.logic.specs.Formula.{Formula}
use Rattle.logic.specs.Normal.{is_clause}
use Rattle.demands.specs.Theory.{formulas_of, names_of, State, live, ended, live_theory}
use Rattle.demands.specs.TheoryText.{theory_text}
use Rattle.demands.specs.Replay.{Replayed}

abbrev pub are_clauses : Problem → List Formula → Bool
are_clauses P fs = every (is_clause P) fs

-- ground clauses; after UNSAT the one formula `false` stands instead
abbrev pub is_ground : Problem → State → Bool
is_ground P (live t used) = are_clauses P (formulas_of t)
is_ground P (ended n used) = true

-- the final formulas, and how many rule lines led to them
pub record Ground : Type 0 where
  pub formulas : List Formula
  pub rules : ℕ

abbrev pub ground_text : Ground → Bytes
ground_text G = theory_text G.formulas

-- the footer's line, behind two lines of heading
abbrev pub footer_line : Replayed State → ℕ
footer_line D = D.rules + 3

unfoldable pub ground_of : Problem → Replayed State → Judged Ground
ground_of P D = do
  provided (same D.final (names_of (live_theory D.last))) (refusal 16 3 (footer_line D))
  provided (is_ground P D.last) (refusal 17 3 (footer_line D))
  done (record { formulas = formulas_of (live_theory D.last); rules = D.rules })
