-- A problem's text, line after line: the definition's outcome is its outcome on the rest of the text, from the part that the table stands for.
-- Assumes nothing.
use Prim.Native.Nat.{ℕ, suc, ◌+◌, ◌≤◌, ◌<◌}
use native.Mathlib.Omega.{arith}
use mathlib.Core.Path.{◌≡◌, refl, sym, subst, ◌∙◌}
use mathlib.Core.List.{List}
use mathlib.Core.Bool.{true, false}
use lib.ListN.{length, drop}
use Rattle.std.specs.Prelude.{Result, Ok, Err}
use Rattle.grammar.specs.Bytes.{Bytes}
use Rattle.grammar.specs.Outcome.{done, refused}
use Rattle.grammar.specs.Lines.{refusal, on_line}
use Rattle.grammar.specs.Problem.{Predicate, Problem, Part, start, problem_line, read_output, whole_problem, problem_of}
use Rattle.grammar.specs.Valid.{Valid}
use Rattle.grammar.proofs.Outcome.{allowed_done}
use Rattle.grammar.proofs.ProblemText.{problem_of_valid}
use Rattle.text.specs.memory.Going.{Going}
use Rattle.text.specs.declared.read.Read.{Read}
use Rattle.text.proofs.Going.{going_first, going_on, going_refused, going_end}
use Rattle.table.specs.memory.Table.{indexed, table_predicate, problem_in}
use Rattle.table.specs.declared.table.Table.{Table}
use Rattle.problem.specs.memory.Faults.{fault_number}
use Rattle.problem.specs.memory.ProblemLines.{part_at, part_in, Standing, PartFound, ToldPart, LineTold, may_end, Beginning, ProblemFound, ProblemTold}
use Rattle.problem.specs.declared.fault.Fault.{Fault}
use Rattle.problem.specs.declared.fault.Fault.TheVariants.{Malformed, Unfit}
use Rattle.problem.specs.declared.progress.Stage.{Stage}
use Rattle.problem.specs.declared.progress.Stage.TheVariants.{Start, Declaring, Awaiting, Closing}
use Rattle.problem.specs.declared.progress.Progress.{Progress}
use Rattle.problem.specs.declared.problem_line.Refusal.{Refusal}

-- The problem's lines.

-- what is read so far, and what is left from a place and a line on
pub record ProblemGoing (text : Bytes) (p : Progress) (rows : List ℕ) (at line : ℕ) : Type 0 where
  pub going : Going 1 problem_line whole_problem (problem_of text) text at line (part_in text p rows)
  pub standing : Standing text p rows
  pub lines : line ≤ at + 1

-- the numbers of refusals are none of an acceptance
fault_some : (P : ℕ → Type 0) (fault : Fault) → ((number : ℕ) → P (suc number)) → P (fault_number fault)
fault_some P Malformed h = h 2
fault_some P Unfit h = h 3

module _ (text : Bytes) (p : Progress) (rows : List ℕ) where
  pub problem-first : Beginning p → ProblemGoing text p rows 0 1
  unfolding problem_of problem_in indexed
  problem-first b =
      record {
        going = rw b.stage (going_first 1 problem_line whole_problem text start);
        standing = record {
          staged = rw b.stage (b.inputs, b.count);
          sum = rw (b.inputs, b.total);
          stored = λ i h. absurd (omega (arith, b.inputs));
        };
        lines = omega arith;
      }

  module _ (at line : ℕ) (g : ProblemGoing text p rows at line) where
    module _ (more : at < length text) where
      pub problem-stopped : (fault : Fault) (new : List ℕ) → ToldPart (problem_line (part_in text p rows)) text at new (Err fault)
          → ProblemTold text new (Err (record { fault = fault; line = line }))
      problem-stopped fault new f =
          fault_some (λ n. problem_line (part_in text p rows) (drop at text) ≡ refused n → problem_of text ≡ refused (refusal n 1 line)) fault
          (λ number e. going_refused 1 problem_line whole_problem text (problem_of text) at line (part_in text p rows) g.going more (suc number) e)
          f.is

      pub problem_on : (read : Read Progress) (new : List ℕ) → PartFound (problem_line (part_in text p rows)) text at new read.value read.next
          → ProblemGoing text read.value new read.next (line + 1)
      problem_on read new f =
          record {
            going = going_on 1 problem_line whole_problem text (problem_of text) at line (part_in text p rows) g.going more read.next (part_in text read.value new)
                f.found.is f.found.after f.found.within;
            standing = f.standing;
            lines = omega (arith, g.lines, f.found.after);
          }

    module _ (over : length text ≤ at) where
      ended : problem_of text ≡ on_line 1 line (whole_problem (part_in text p rows))
      ended = going_end 1 problem_line whole_problem text (problem_of text) at line (part_in text p rows) g.going over

      pub problem-end : may_end p.stage ≡ true → ProblemFound text rows p.table
      problem-end e =
          record {
            is = ended ∙ pick p.stage e (problem_in text p.table rows) (table_predicate text p.table p.table.count);
            inside = p.inside;
            few = p.few;
            small = p.small;
          }
        where
          pick : (stage : Stage) → may_end stage ≡ true → (P : Problem) (q : Predicate) → on_line 1 line (whole_problem (part_at stage P q)) ≡ done P
          pick Start e P q = cc
          pick Declaring e P q = refl
          pick Awaiting e P q = cc
          pick Closing e P q = refl

      pub problem-unended : may_end p.stage ≡ false → ProblemTold text rows (Err (record { fault = Malformed; line = line }))
      problem-unended e = ended ∙ pick p.stage e (problem_in text p.table rows) (table_predicate text p.table p.table.count)
        where
          pick : (stage : Stage) → may_end stage ≡ false → (P : Problem) (q : Predicate)
              → on_line 1 line (whole_problem (part_at stage P q)) ≡ refused (refusal 3 1 line)
          pick Start e P q = refl
          pick Declaring e P q = cc
          pick Awaiting e P q = refl
          pick Closing e P q = cc

-- A line where the reading stands.

module _ (text : Bytes) (at : ℕ) (p : Progress) (r : Result (Read Progress) Fault) (rows : List ℕ) (standing : Standing text p rows) where
  abbrev P : Problem
  P = problem_in text p.table rows

  abbrev Told : Part → Type 0
  Told part = ToldPart (problem_line part) text at rows r

  -- by what the part is at a stage
  line_at_stage : (stage : Stage) → p.stage ≡ stage → Told (part_at stage P (table_predicate text p.table p.table.count)) → Told (part_in text p rows)
  line_at_stage stage e f = subst (λ s. Told (part_at s P (table_predicate text p.table p.table.count))) (sym e) f

  pub line_closing : p.stage ≡ Closing → LineTold (λ rows. read_output (problem_in text p.table rows)) text at p r → Told (part_in text p rows)
  unfolding problem_line
  line_closing e f = line_at_stage Closing e (f.told rows standing)

-- What is read, in the definition's words.

module _ (text : Bytes) (rows : List ℕ) (r : Result Table Refusal) (told : ProblemTold text rows r) where
  module _ (table : Table) (accepted : r ≡ Ok table) where
    pub problem-done : problem_of text ≡ done (problem_in text table rows)
    problem-done = (subst (ProblemTold text rows) accepted told).is

    pub problem_valid : Valid (problem_in text table rows)
    problem_valid = allowed_done Valid (problem_of text) (problem_in text table rows) (problem_of_valid text) problem-done

  pub problem-refused : (refused_by : Refusal) → r ≡ Err refused_by → problem_of text ≡ refused (refusal (fault_number refused_by.fault) 1 refused_by.line)
  problem-refused refused_by e = subst (ProblemTold text rows) e told
