-- `store::without_word` stores what stands before the word, and what stands after it.
use mathlib.Core.List.{[]}
use Rattle.words.proofs.memory.Storing.{theory_starts, theory_ends}
use Rattle.words.proofs.store.without_word.Goals as goal

pub returns : goal.returns
returns c =
    theory_ends c.requires (theory_starts c.requires [] c.copy-next.ensures) c.copy.ensures
