-- `leaf::read_leaf` tells the kind by the word that the text begins with.
use native.Mathlib.Omega.{arith}
use Prim.Native.Nat.{◌+◌}
use mathlib.Core.Path.{sym, ◌∙◌}
use Rattle.grammar.specs.Bytes.{bytes}
use Rattle.logic.specs.Reading.{read_equality, read_atom}
use Rattle.text.proofs.Found.{word-found}
use Rattle.terms.specs.memory.Entries.{setting_of, memory}
use Rattle.reading.specs.memory.FormulaReads.{read_leaf}
use Rattle.reading.proofs.memory.Leaves.{leaf-later, true_found, false_found, equality_behind, atom_behind}
use Rattle.reading.proofs.leaf.read_leaf.Goals as goal

pub returns-then-begins_at : goal.returns-then-begins_at
returns-then-begins_at c =
    rw (c.read_truth.ensures.stored, c.read_truth.ensures.is)
    (true_found _ _ c.requires.0 _ _ _ (sym c.begins_at.ensures ∙ c.if-begins_at.true))

pub returns-then-begins_at-2 : goal.returns-then-begins_at-2
returns-then-begins_at-2 c =
    rw (c.read_truth-then-begins_at-2.ensures.stored, c.read_truth-then-begins_at-2.ensures.is)
    (false_found _ _ c.requires.0 _ _ _ (sym c.begins_at.ensures ∙ c.if-begins_at.false) (sym c.begins_at-2.ensures ∙ c.if-begins_at-2.true))

pub read_equality-requires : goal.read_equality-requires
read_equality-requires c =
    omega (arith, (word-found c.args.setting.now.text.now c.args.at (bytes "=(") c.requires.0 (sym c.begins_at-3.ensures ∙ c.if-begins_at-3.true)).within)

pub returns-then-begins_at-3 : goal.returns-then-begins_at-3
returns-then-begins_at-3 c =
    leaf-later (setting_of c.args.setting.now) read_leaf read_equality c.args.at (c.args.at + 2)
    (equality_behind (setting_of c.args.setting.now) _ c.requires.0 c.args.names.now c.args.work.now c.args.to (sym c.begins_at.ensures ∙ c.if-begins_at.false) (sym c.begins_at-2.ensures ∙ c.if-begins_at-2.false) (sym c.begins_at-3.ensures ∙ c.if-begins_at-3.true))
    (omega arith) (memory c.args.names.now c.args.work.now) c.args.to _ _ c.read_equality.ensures

pub returns : goal.returns
returns c =
    leaf-later (setting_of c.args.setting.now) read_leaf read_atom c.args.at c.args.at
    (atom_behind (setting_of c.args.setting.now) _ c.requires.0 c.args.names.now c.args.work.now c.args.to (sym c.begins_at.ensures ∙ c.if-begins_at.false) (sym c.begins_at-2.ensures ∙ c.if-begins_at-2.false) (sym c.begins_at-3.ensures ∙ c.if-begins_at-3.false))
    (omega arith) (memory c.args.names.now c.args.work.now) c.args.to _ _ c.read_atom.ensures
