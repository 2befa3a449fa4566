-- The sizes that contracts ask for are the statement's.
-- Assumes nothing.
use Prim.Native.Nat.{ℕ, ◌≤◌}
use mathlib.Core.Path.{◌≡◌, refl}
use mathlib.Core.List.{List}
use lib.ListN.{length}
use Rattle.grammar.specs.Sizes.{text_size, work_size, domain_size, predicate_count, greatest_arity}
use Rattle.text.specs.memory.Sizes.{ShortText, InWork, FewElements, FewPredicates, FewTerms}

pub sizes_stated : (text work : List ℕ) (domain predicates arity : ℕ)
    → (ShortText text ≡ (length text ≤ text_size)) × (InWork work ≡ (length work ≤ work_size)) × (FewElements domain ≡ (domain ≤ domain_size))
    × (FewPredicates predicates ≡ (predicates ≤ predicate_count)) × (FewTerms arity ≡ (arity ≤ greatest_arity))
unfolding text_size work_size domain_size predicate_count greatest_arity
sizes_stated text work domain predicates arity = (refl, refl, refl, refl, refl)
