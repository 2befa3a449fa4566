-- `names::names_behind` stores what stands before the name, the new names, and what stands after it.
use native.Mathlib.Omega.{arith}
use mathlib.Core.Path.{refl}
use Rattle.text.specs.memory.Numbers.{numbers_at}
use Rattle.text.proofs.NumberPlaces.{length-numbers_at}
use Rattle.words.proofs.memory.Storing.{ahead_turn, ahead_length, theory_starts, theory_ends, place_near, roomy_placed}
use Rattle.names.proofs.names.names_behind.Goals as goal

pub copy-requires : goal.copy-requires
copy-requires c =
    let names = numbers_at c.args.text.now c.args.names.at c.args.names.many in
    let near = place_near (roomy_placed c.requires.0) c.copy-here.ensures in
    let same = ahead_length (ahead_turn (theory_starts (roomy_placed c.requires.0) names c.copy-here.ensures) refl c.put_numbers-behind.ensures) in
    let long = length-numbers_at c.args.text.now c.args.names.at c.args.names.many in
    record {
      ordered = omega (arith, c.requires.0);
      within = omega (arith, c.requires.0);
      near = omega (arith, c.requires.0, c.requires.1, c.put_numbers-behind.ensures.ends);
    }

pub returns : goal.returns
returns c =
    let names = numbers_at c.args.text.now c.args.names.at c.args.names.many in
    theory_ends (roomy_placed c.requires.0) (ahead_turn (theory_starts (roomy_placed c.requires.0) names c.copy-here.ensures) refl c.put_numbers-behind.ensures) c.copy.ensures
