-- The guard of a quantifier in memory: a turn of the loop over the elements; and what memory tells of the guard is what the definitions say of it.
-- Assumes nothing.
use Prim.Native.Nat.{ℕ, suc, ◌+◌, ◌-◌, ◌/◌, ◌%◌, ◌≤◌, ◌<◌}
use native.Mathlib.Numerals.{add-one}
use native.Mathlib.Omega.{arith}
use mathlib.Core.Path.{◌≡◌, ◌∙◌}
use mathlib.Core.List.{List, ◌++◌, map, append_assoc}
use mathlib.Core.Bool.{Bool, true, false}
use lib.ListN.{length, get_or, take, drop, set, replicate, length-replicate, length-map}
use lib.Seq.{sets, sets-eq, take_at, drop-drop}
use Rattle.grammar.specs.Bytes.{Bytes}
use Rattle.grammar.specs.Problem.{Name}
use Rattle.grammar.specs.Valid.{Valid}
use Rattle.grammar.proofs.Problem.{domain-few}
use Rattle.logic.specs.Formula.{Side, Formula, quantifier, depth}
use Rattle.logic.specs.Names.{known, closed_but}
use Rattle.logic.specs.Normal.{inputs_only}
use Rattle.logic.specs.Meaning.{count_from, elements_to}
use Rattle.logic.specs.Rules.{admits}
use Rattle.logic.proofs.Meaning.{length-count_from}
use Rattle.text.proofs.Places.{next-within}
use Rattle.table.specs.memory.Table.{position, table_names, problem_in}
use Rattle.table.specs.declared.table.Table.{Table}
use Rattle.words.specs.memory.Words.{words}
use Rattle.words.proofs.memory.Naming.{Naming, words_in, Storable, VariableListed}
use Rattle.words.proofs.memory.Words.{quantifier-index}
use Rattle.guards.specs.memory.Flags.{closed_at}
use Rattle.guards.specs.memory.Values.{true_at}
use Rattle.guards.specs.memory.Admitted.{guard_closed, guard_admits, admitted_flags}
use Rattle.guards.proofs.memory.Indexed.{closed_but-words}
use Rattle.guards.proofs.memory.Evaluated.{map-count_from, admits-words}

-- The quantifier at a place.

module _ (work : List ℕ) (at levels : ℕ) where
  pub closed_here : guard_closed levels (drop at work) ≡ closed_at levels (set (replicate 64 false) (get_or work at 0 / 16 % 64) true) (drop (at + 1) work)
  unfolding guard_closed
  closed_here = rw (next-within work at, ← drop-drop 1 at work)

  pub admits_here : (table : Table) (rows : List ℕ) (v : ℕ)
      → guard_admits table rows levels (drop at work) v ≡ true_at table rows levels (set (replicate 64 0) (get_or work at 0 / 16 % 64) v) (drop (at + 1) work)
  unfolding guard_admits
  admits_here table rows v = rw (next-within work at, ← drop-drop 1 at work)

-- Flags one by one, for the elements from i + 1 on.

module _ (g : ℕ → Bool) (n : ℕ) where
  abbrev pub flags_from : ℕ → List Bool
  flags_from i = map g (count_from (i + 1) (n - i))

  pub flags_next : (flags : List Bool) (i : ℕ) (b : Bool) → i < n → b ≡ g (i + 1) → sets flags i (flags_from i) ≡ sets (set flags i b) (i + 1) (flags_from (i + 1))
  flags_next flags i b h e =
      let f : n - i ≡ suc (n - (i + 1)) = omega arith in
      rw (f, e, add-one (i + 1), add-one i)

  pub flags_none : (flags : List Bool) (i : ℕ) → i ≡ n → sets flags i (flags_from i) ≡ flags
  flags_none flags i e = let f : n - i ≡ 0 = omega arith in rw f

-- the first flags are those that were stored
pub flags_first : (g : ℕ → Bool) (n : ℕ) → n ≤ 64 → take n (sets (replicate 64 false) 0 (map g (elements_to n))) ≡ map g (elements_to n)
flags_first g n h =
    let flags = map g (elements_to n) in
    let long : length flags ≡ n = length-map (elements_to n) g ∙ length-count_from n 1 in
    let room = length-replicate 64 false in
    rw (sets-eq flags (replicate 64 false) 0 (omega arith)) (take_at flags _ n long)

pub ruleset flags_told = (admits_here, flags_next, flags_none, flags_first)

-- What the definitions say.

module _ (N : Naming) (c : Side) (x : Name) (g f : Formula) (s : List ℕ) (listed : VariableListed N x) (levels : ℕ) (low : depth g ≤ levels) (storable : Storable N g) where
  pub guard_closed-words : guard_closed levels (words_in N (quantifier c x g f) ++ s) ≡ closed_but x g
  unfolding guard_closed words
  guard_closed-words = rw (quantifier-index c (N.variable_index x), append_assoc) (closed_but-words N x g levels (words_in N f ++ s) listed storable low)

  module _ (text : Bytes) (table : Table) (rows : List ℕ) (inside : table.inputs ≤ table.count) (valid : Valid (problem_in text table rows))
      (index : (p : Name) → N.predicate_index p ≡ position p (table_names text table))
      (is_known : known (problem_in text table rows) g ≡ true) (inputs : inputs_only (problem_in text table rows) g ≡ true) where
    guard_admits-words : (v : ℕ) → v < 256 → guard_admits table rows levels (words_in N (quantifier c x g f) ++ s) v ≡ admits (problem_in text table rows) x g v
    unfolding guard_admits words
    guard_admits-words v h =
        rw (quantifier-index c (N.variable_index x), append_assoc)
        (admits-words N text table rows inside valid index x g levels (words_in N f ++ s) v listed storable low is_known inputs h)

    pub admitted_flags-words : admitted_flags table rows levels (words_in N (quantifier c x g f) ++ s)
        ≡ map (admits (problem_in text table rows) x g) (elements_to (problem_in text table rows).domain)
    unfolding problem_in
    admitted_flags-words =
        map-count_from _ _ table.domain 1 (λ v l h. guard_admits-words v (omega (arith, domain-few valid)))
