-- `Memory::split`: the names climb, the target, that it is an `&` of as many parts, and that there are not too many formulas.
use native.Mathlib.Omega.{arith}
use Prim.Native.Nat.{◌+◌, ◌≤◌, ◌<◌}
use mathlib.Core.Path.{◌≡◌, refl, sym, subst, ◌∙◌}
use mathlib.Core.Bool.{Bool, true, false}
use lib.ListN.{length, get_or, length-take}
use borrow.Author.Tests.{le-leb, lt-leb}
use Rattle.text.proofs.NumberPlaces.{length-numbers_at}
use Rattle.words.specs.memory.Kinds.{kind_of}
use Rattle.demands.specs.Theory.{climbing, highest}
use Rattle.names.specs.memory.Names.{ToldClimb}
use Rattle.names.proofs.NameLists.{region_length}
use Rattle.derivation.specs.memory.RuleLines.{numbers_in}
use Rattle.steps.specs.memory.Held.{is_split, split_in}
use Rattle.steps.specs.memory.Memory.{held_of}
use Rattle.steps.proofs.Decisions.{word-here, some_of_ok}
use Rattle.steps.proofs.memory.Memory.split.Goals as goal
use Rattle.steps.proofs.memory.Memory.split.Goals.{After-is_split, In_ok-top, Start}

-- as many live names as are counted, and names of the text
counted : (c : Start) → length (held_of c.args.self.now).names + length (numbers_in c.args.at.now.text.now c.args.names) ≡ c.args.self.now.live.count + c.args.names.many
counted c =
    let m = c.args.self.now in
    omega (arith, region_length m.work.now m.layout.names m.live.count (omega arith), length-numbers_at c.args.at.now.text.now c.args.names.at c.args.names.many)

-- the names climb, to the last of them
climbed : (c : In_ok-top) → let names = numbers_in c.args.at.now.text.now c.args.names in (climbing c.args.self.now.live.top names ≡ true) × (highest c.args.self.now.live.top names ≡ c.in_ok-top.top)
climbed c =
    subst (ToldClimb c.args.self.now.live.top (numbers_in c.args.at.now.text.now c.args.names)) (some_of_ok _ _ (sym c.ok_or.ensures.value ∙ c.in_ok-top.was)) c.climbs.ensures

-- whether it splits is told
parts : (c : After-is_split) (b : Bool) → c.is_split.result ≡ b
    → is_split (kind_of (get_or (held_of c.args.self.now).words c.in_ok-target.target.at 0)) (length (numbers_in c.args.at.now.text.now c.args.names)) ≡ b
parts c b e = rw (length-numbers_at c.args.at.now.text.now c.args.names.at c.args.names.many, ← c.word_at.ensures, ← c.is_split.ensures) e

pub returns-then-not-is_split-clause-told : goal.returns-then-not-is_split-clause-told
unfolding split_in
returns-then-not-is_split-clause-told c =
    let g = goal.at.returns-then-not-is_split-clause-told c in
    rw ((climbed g.In_ok-top).0, c.in_ok-target.ensures.found, parts g.After-is_split false c.if-not-is_split.true)

pub returns-then-self-names-gt-FORMULA_COUNT_WITH_SPLIT-clause-told :
    goal.returns-then-self-names-gt-FORMULA_COUNT_WITH_SPLIT-clause-told
unfolding split_in
returns-then-self-names-gt-FORMULA_COUNT_WITH_SPLIT-clause-told c =
    let g = goal.at.returns-then-self-names-gt-FORMULA_COUNT_WITH_SPLIT-clause-told c in
    let many : 1025 < length (held_of c.args.self.now).names + length (numbers_in c.args.at.now.text.now c.args.names) = omega (arith, counted g.Start) in
    rw ((climbed g.In_ok-top).0, c.in_ok-target.ensures.found, parts g.After-is_split true c.if-not-is_split.false, lt-leb _ 1025 many)

pub open-requires : goal.open-requires
open-requires c =
    let m = c.args.self.now in
    let here = word-here (λ k. is_split k (length (numbers_in c.args.at.now.text.now c.args.names))) refl (held_of m).words _ (parts (goal.at.open-requires c).After-is_split true c.if-not-is_split.false) in
    let l = length-take m.live.full m.work.now in
    omega (arith, here, c.in_ok-target.ensures.within, c.requires)

pub returns-clause-told : goal.returns-clause-told
unfolding split_in
returns-clause-told c =
    let g = goal.at.returns-clause-told c in
    let few : length (held_of c.args.self.now).names + length (numbers_in c.args.at.now.text.now c.args.names) ≤ 1025 = omega (arith, counted g.Start) in
    rw ((climbed g.In_ok-top).0, c.in_ok-target.ensures.found, parts g.After-is_split true c.if-not-is_split.false, le-leb _ 1025 few, (climbed g.In_ok-top).1) c.open.ensures.told
