-- What a formula means in a structure; which structures extend the input structure.
use Rattle.std.specs.Prelude.{ℕ, suc, zero, ◌≡◌, List, [], ◌∷◌, map, Bool, true, false, cond, not, ◌&&◌, ◌||◌, eqb, get_or}
use Rattle.std.specs.Bool.{beq}
use Rattle.grammar.specs.Bytes.{same}
use Rattle.grammar.specs.Problem.{Name, Row, Problem, is_input, given}
use Rattle.logic.specs.Formula.{Term, element, variable, Terms, no_terms, term, Side, all, any, Connective, negation, implies, implied_by, equivalent, junction}
use Rattle.logic.specs.Formula.{Formula, truth, atom, equal, connective, quantifier, Formulas, no_parts, part}

-- elements 1 to `domain`, and a relation for each predicate, given by its characteristic function
pub record Structure : Type 0 where
  pub domain : ℕ
  pub relation : Name → Row → Bool

abbrev pub input_structure : Problem → Structure
input_structure P = record { domain = P.domain; relation = given P }

-- the same elements and the same input predicates; output predicates are any relations
pub record Extends (P : Problem) (S : Structure) : Type 0 where
  pub elements : S.domain ≡ P.domain
  pub inputs : (p : Name) (row : Row) → is_input P p ≡ true → S.relation p row ≡ given P p row

-- the value of each variable
abbrev pub Environment : Type 0
Environment = Name → ℕ

abbrev pub nowhere : Environment
nowhere x = 0

abbrev pub bind : Environment → Name → ℕ → Environment
bind ρ x v = λ y. cond (same y x) v (ρ y)

abbrev pub value_of : Environment → Term → ℕ
value_of ρ (element v) = v
value_of ρ (variable x) = ρ x

abbrev pub values_of : Environment → Terms → Row
values_of ρ no_terms = []
values_of ρ (term t ts) = value_of ρ t ∷ values_of ρ ts

-- `&` of nothing is true, `|` of nothing false
abbrev pub unit : Side → Bool
unit all = true
unit any = false

abbrev pub join : Side → Bool → Bool → Bool
join all a b = a && b
join any a b = a || b

abbrev pub join_all : Side → List Bool → Bool
join_all c [] = unit c
join_all c (b ∷ bs) = join c b (join_all c bs)

-- a connective's value from its parts' values
abbrev pub connect : Connective → List Bool → Bool
connect negation bs = not (get_or bs 0 false)
connect implies bs = not (get_or bs 0 false) || get_or bs 1 false
connect implied_by bs = not (get_or bs 1 false) || get_or bs 0 false
connect equivalent bs = beq (get_or bs 0 false) (get_or bs 1 false)
connect (junction c) bs = join_all c bs

-- the numbers from k on, so many
abbrev pub count_from : ℕ → ℕ → List ℕ
count_from k zero = []
count_from k (suc n) = k ∷ count_from (suc k) n

-- 1 to n
abbrev pub elements_to : ℕ → List ℕ
elements_to n = count_from 1 n

-- for one element: the body's value where the guard is true, and what changes nothing where it is not
abbrev pub guarded : Side → Bool → Bool → Bool
guarded c guard body = cond guard body (unit c)

unfoldable mutual
  pub holds : Structure → Environment → Formula → Bool
  holds S ρ (truth b) = b
  holds S ρ (atom p ts) = S.relation p (values_of ρ ts)
  holds S ρ (equal s t) = eqb (value_of ρ s) (value_of ρ t)
  holds S ρ (connective o fs) = connect o (truths S ρ fs)
  holds S ρ (quantifier c x g f) =
      join_all c (map (λ v. guarded c (holds S (bind ρ x v) g) (holds S (bind ρ x v) f)) (elements_to S.domain))

  pub truths : Structure → Environment → Formulas → List Bool
  truths S ρ no_parts = []
  truths S ρ (part f fs) = holds S ρ f ∷ truths S ρ fs

-- a theory holds if each of its formulas does
abbrev pub satisfies : Structure → List Formula → Bool
satisfies S [] = true
satisfies S (f ∷ fs) = holds S nowhere f && satisfies S fs
