-- A derivation's line on what memory holds: one law for each way that a line goes, and for the heading's. Assumes nothing.
use Prim.Native.Nat.{ℕ, suc, ◌+◌, ◌-◌, ◌<◌}
use native.Mathlib.Omega.{arith}
use mathlib.Core.Path.{◌≡◌, refl, ◌∙◌}
use mathlib.Core.List.{List}
use lib.ListN.{length}
use Rattle.grammar.specs.Bytes.{Bytes}
use Rattle.grammar.specs.Outcome.{done, refused}
use Rattle.grammar.specs.Reading.{Reading}
use Rattle.grammar.specs.Lines.{refusal}
use Rattle.grammar.specs.Derivation.{RuleLine, step, footer, read_line, read_version, read_grounder}
use Rattle.demands.specs.Replay.{Place, top, heading, among, bottom, whole_derivation, derivation_line, derivation_from}
use Rattle.text.specs.memory.Found.{Found, Refused}
use Rattle.text.specs.memory.Told.{Ends}
use Rattle.text.proofs.Going.{going_first, going_on, going_refused, going_end, going_stuck}
use Rattle.table.specs.declared.table.Table.{Table}
use Rattle.derivation.specs.memory.RuleLines.{rule_of}
use Rattle.derivation.specs.declared.rule_line.Rule.{Rule as RuleName}
use Rattle.derivation.specs.declared.rule_line.Rule.TheVariants.{Snand, Snor, Stn, Epred, Eprop, Iq}
use Rattle.steps.specs.memory.Held.{Held, rule_name, stepped_in}
use Rattle.steps.specs.memory.Memory.{rows_of, held_of, Kept, Stepped}
use Rattle.steps.specs.declared.memory.Memory.{Memory}
use Rattle.grounding.specs.memory.Lines.{line_in, GoingIn, derived_in, Replaying}

-- the rule that a line names, as the code has it
pub name-rule : (rule : RuleName) → rule_name (rule_of rule) ≡ rule
name-rule Snand = refl
name-rule Snor = refl
name-rule Stn = refl
name-rule Epred = refl
name-rule Eprop = refl
name-rule Iq = refl

-- what is kept over a line and another is kept over both
pub Kept_on : {first now new : Memory} → Kept first now → Kept now new → Kept first new
Kept_on a b = record { layout = b.layout ∙ a.layout; long = b.long ∙ a.long; lent = b.lent ∙ a.lent }

module _ (table : Table) (first : Memory) (text : Bytes) where
  abbrev reads : Place Held → Reading (Place Held)
  reads = line_in table (rows_of first) (held_of first)

  abbrev GoingOn : ℕ → ℕ → Place Held → Type 0
  GoingOn at line place = GoingIn table (rows_of first) (held_of first) (derived_in table first text) text at line place

  -- The heading.

  begun : GoingOn 0 1 top
  unfolding derivation_from
  begun = going_first 3 reads whole_derivation text top

  pub version-refused : Refused 10 read_version text 0 → derived_in table first text ≡ refused (refusal 10 3 1)
  unfolding derivation_line
  version-refused f = going_stuck 3 reads whole_derivation text _ 0 1 top begun 10 (rw f.is) refl

  module _ (at : ℕ) (version : Ends read_version text 0 at) (after : 0 < at) where
    headed : GoingOn at 2 heading
    unfolding derivation_line
    headed = going_on 3 reads whole_derivation text _ 0 1 top begun (omega (arith, version.found.within)) at heading (rw version.found.is) after version.found.within

    pub grounder-refused : Refused 10 read_grounder text at → derived_in table first text ≡ refused (refusal 10 3 2)
    unfolding derivation_line
    grounder-refused f = going_stuck 3 reads whole_derivation text _ at 2 heading headed 10 (rw f.is) refl

    pub grounder_on : (next : ℕ) → Ends read_grounder text at next → at < next → Replaying table first text next 3 first
    unfolding derivation_line
    grounder_on next grounder more =
        record {
          going = going_on 3 reads whole_derivation text _ at 2 heading headed (omega (arith, grounder.found.within)) next (among (held_of first) 0) (rw grounder.found.is) more
              grounder.found.within;
          rows = refl;
          layout = refl;
          late = omega arith;
          counted = omega arith;
        }

  -- A line behind it.

  module _ (at line : ℕ) (now : Memory) (replaying : Replaying table first text at line now) where
    abbrev place : Place Held
    place = among (held_of now) (line - 3)

    pub line_malformed : Refused 10 read_line text at → derived_in table first text ≡ refused (refusal 10 3 line)
    unfolding derivation_line
    line_malformed f = going_stuck 3 reads whole_derivation text _ at line place replaying.going 10 (rw f.is) refl

    module _ (next : ℕ) (after : at < next) where
      module _ (l : RuleLine) (found : Found read_line text at (step l) next) where
        pub step-refused : (n : ℕ) → stepped_in table (rows_of now) (held_of now) l ≡ refused n → derived_in table first text ≡ refused (refusal n 3 line)
        unfolding derivation_line
        step-refused n e =
            going_refused 3 reads whole_derivation text _ at line place replaying.going (omega (arith, found.within)) n (rw (found.is, ← replaying.rows, e))

        pub step_on : (new : Memory) → Stepped (stepped_in table (rows_of now) (held_of now) l) now new → Replaying table first text next (line + 1) new
        unfolding derivation_line
        step_on new s =
            let e : line + 1 - 3 ≡ suc (line - 3) = omega (arith, replaying.late) in
            record {
              going = rw e
                  (going_on 3 reads whole_derivation text _ at line place replaying.going (omega (arith, found.within)) next (among (held_of new) (suc (line - 3)))
                  (rw (found.is, ← replaying.rows, s.is)) after found.within);
              rows = s.rows ∙ replaying.rows;
              layout = s.layout ∙ replaying.layout;
              late = omega (arith, replaying.late);
              counted = omega (arith, replaying.counted);
            }

      module _ (final : List ℕ) (found : Found read_line text at (footer final) next) where
        closed : GoingOn next (line + 1) (bottom (held_of now) (line - 3) final)
        unfolding derivation_line
        closed = going_on 3 reads whole_derivation text _ at line place replaying.going (omega (arith, found.within)) next _ (rw found.is) after found.within

        -- bytes stand after the footer
        pub footer-refused : next < length text → derived_in table first text ≡ refused (refusal 10 3 (line + 1))
        unfolding derivation_line
        footer-refused h = going_refused 3 reads whole_derivation text _ next (line + 1) _ closed h 10 refl

        pub footer_end : next ≡ length text → derived_in table first text ≡ done (record { last = held_of now; rules = line - 3; final = final })
        footer_end h = going_end 3 reads whole_derivation text _ next (line + 1) _ closed (omega arith)
