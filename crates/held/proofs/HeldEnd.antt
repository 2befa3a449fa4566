-- At the end of a derivation: what memory holds is judged to be ground clauses exactly if the live formulas are, and what is printed of it is their text.
-- By the laws on one clause.
-- Assumes nothing.
use Prim.Native.Nat.{ℕ, ◌≤◌}
use native.Mathlib.Omega.{arith}
use mathlib.Core.Path.{◌≡◌, refl, sym, ap, ◌∙◌}
use mathlib.Core.List.{List, [], ◌∷◌, append-nil}
use mathlib.Core.Bool.{true, false}
use lib.ListN.{length}
use Rattle.grammar.specs.Sizes.{level_count}
use Rattle.grammar.specs.Bytes.{Bytes}
use Rattle.grammar.specs.Problem.{Name, Problem}
use Rattle.grammar.specs.Each.{Each}
use Rattle.grammar.specs.Valid.{Valid}
use Rattle.grammar.proofs.Laws.{and_left, and_right}
use Rattle.logic.specs.Formula.{Formula, truth, depth}
use Rattle.logic.specs.Normal.{is_clause}
use Rattle.logic.proofs.WellFormed.{WellFormed_tested}
use Rattle.demands.specs.Theory.{formulas_of, State, live, ended, live_theory}
use Rattle.demands.specs.Ground.{are_clauses, is_ground}
use Rattle.demands.specs.TheoryText.{theory_text}
use Rattle.demands.proofs.Theory.{length-names, length-formulas}
use Rattle.demands.proofs.Ground.{Well}
use Rattle.table.specs.memory.Table.{position, table_names, problem_in}
use Rattle.table.specs.declared.table.Table.{Table}
use Rattle.words.specs.memory.Words.{words}
use Rattle.words.proofs.memory.Naming.{Naming, Storable}
use Rattle.words.proofs.memory.Words.{after_first-words}
use Rattle.printing.specs.memory.ClauseText.{clause_lines}
use Rattle.printing.proofs.memory.ClauseText.{Printable, clause_lines-words, clause_text-truth}
use Rattle.clauses.specs.memory.Clauses.{all_at, clause_at}
use Rattle.held.proofs.GroundTable.{table_named, clause_at_table}
use Rattle.held.proofs.HeldWords.{theory_words, held_of}
use Rattle.held.proofs.Held.{Sound}

module _ (N : Naming) (text : Bytes) (table : Table) (rows : List ℕ) (inside : table.inputs ≤ table.count)
    (valid : Valid (problem_in text table rows)) (index : (p : Name) → N.predicate_index p ≡ position p (table_names text table)) where
  abbrev P : Problem
  P = problem_in text table rows

  shallow : (f : Formula) → Well P f → depth f ≤ 32
  unfolding level_count
  shallow f w = (WellFormed_tested w).is_shallow

  clauses_words : (fs : List Formula) → Each (Well P) fs → Each (Storable N) fs → all_at (clause_at table 32) (length fs) (theory_words N fs) ≡ are_clauses P fs
  unfolding all_at words
  clauses_words [] w q = refl
  clauses_words (f ∷ fs) w q =
      rw (
        clause_at_table text table rows inside valid N index f 32 (theory_words N fs) q.0 (shallow f w.0),
        after_first-words N f (theory_words N fs),
        clauses_words fs w.1 q.1,
      )

  printable : (fs : List Formula) → are_clauses P fs ≡ true → Each (Well P) fs → Each (Storable N) fs
      → Each (Printable text table N P (table_named text table rows inside valid N index) 32) fs
  printable [] e w q = tt
  printable (f ∷ fs) e w q = (
    record { ground = and_left (is_clause P f) (are_clauses P fs) e; storable = q.0; shallow = shallow f w.0 },
    printable fs (and_right (is_clause P f) (are_clauses P fs) e) w.1 q.1,
  )

  lines-words : (fs : List Formula) → are_clauses P fs ≡ true → Each (Well P) fs → Each (Storable N) fs
      → clause_lines text table 32 (length fs) (theory_words N fs) ≡ theory_text fs
  lines-words fs e w q =
      ap (clause_lines text table 32 (length fs)) (sym (append-nil (theory_words N fs)))
      ∙ clause_lines-words text table N P (table_named text table rows inside valid N index) theory_text refl (λ f rest. refl) fs 32 [] (printable fs e w q)

  lines-ended : clause_lines text table 32 1 (0 ∷ []) ≡ theory_text (truth false ∷ [])
  unfolding clause_lines
  lines-ended = rw (clause_text-truth text table 32 false [] (omega arith))

  counted : (s : State) → length (held_of N s).names ≡ length (formulas_of (live_theory s))
  counted s = length-names (live_theory s) ∙ sym (length-formulas (live_theory s))

  pub clauses_held : (s : State) → Sound N text table rows inside valid index s
      → all_at (clause_at table 32) (length (held_of N s).names) (held_of N s).words ≡ are_clauses P (formulas_of (live_theory s))
  clauses_held s sound = rw (counted s) (clauses_words (formulas_of (live_theory s)) sound.wells sound.storables)

  pub lines-held : (s : State) → Sound N text table rows inside valid index s → is_ground P s ≡ true
      → clause_lines text table 32 (length (held_of N s).names) (held_of N s).words ≡ theory_text (formulas_of (live_theory s))
  unfolding words
  lines-held (live t top) sound e = rw (counted (live t top)) (lines-words (formulas_of t) e sound.wells sound.storables)
  lines-held (ended n top) sound e = lines-ended
