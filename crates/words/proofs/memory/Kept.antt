-- Every rule, at every path, keeps a formula one that memory can hold. By the cases of the tables.
-- Assumes nothing.
use Prim.Native.Nat.{ℕ, suc, zero, ◌+◌, ◌≤◌, ◌<◌}
use native.Mathlib.Omega.{arith}
use mathlib.Core.List.{List, [], ◌∷◌}
use mathlib.Core.Bool.{Bool, true, false, cond}
use Rattle.grammar.specs.Bytes.{same}
use Rattle.grammar.specs.Problem.{Name, Problem}
use Rattle.grammar.specs.Derivation.{Rule}
use Rattle.grammar.specs.Each.{Each}
use Rattle.grammar.proofs.Outcome.{Allowed, allowed_weaken}
use Rattle.logic.specs.Formula.{Term, element, variable, Terms, no_terms, term, Side, replace_term, replace_terms, replace, replaces}
use Rattle.logic.specs.Formula.{Formula, truth, atom, equal, connective, quantifier, Formulas, no_parts, part}
use Rattle.logic.specs.Meaning.{unit, count_from, elements_to}
use Rattle.logic.specs.Rules.{is_truth, without, unless_none, admits, instances, apply, at}
use Rattle.logic.specs.Tables.{Makes, absorbing, dropping, negating, predicate, equality, proposition, instantiating}
use Rattle.logic.specs.Tables.{Exchanged, first, later, MakesAt, here, in_part, in_guard, in_body}
use Rattle.logic.proofs.Tables.{at_makes}
use Rattle.logic.proofs.Kept.{term_count-replace}
use Rattle.words.proofs.memory.Naming.{Naming, TermStorable, TermsStorable, Storable, AllStorable}

each_count_from : (n k m : ℕ) → k + m ≤ n → Each (λ v. v < n) (count_from k m)
each_count_from n k zero h = tt
each_count_from n k (suc m) h = (omega arith, each_count_from n (suc k) m (omega arith))

module _ (N : Naming) where
  -- An element put for a variable.
  module _ (x : Name) (v : ℕ) (low : v < 256) where
    term-replace : (t : Term) → TermStorable N t → TermStorable N (replace_term x v t)
    term-replace (element k) h = h
    term-replace (variable y) h = pick (same y x)
      where
        pick : (b : Bool) → TermStorable N (cond b (element v) (variable y))
        pick true = low
        pick false = h

    terms_replace : (ts : Terms) → TermsStorable N ts → TermsStorable N (replace_terms x v ts)
    terms_replace no_terms h = tt
    terms_replace (term t ts) h = (term-replace t h.0, terms_replace ts h.1)

    mutual
      unfolding replace

      pub replace_storable : (f : Formula) → Storable N f → Storable N (replace x v f)
      replace_storable (truth b) h = tt
      replace_storable (atom p ts) h = (h.0, rw (term_count-replace x v ts) h.1, terms_replace ts h.2)
      replace_storable (equal s t) h = (term-replace s h.0, term-replace t h.1)
      replace_storable (connective o fs) h = replaces_storable fs h
      replace_storable (quantifier c y g f) h = pick (same y x) (replace_storable g h.1) (replace_storable f h.2)
        where
          pick : (b : Bool) → Storable N (replace x v g) → Storable N (replace x v f)
              → Storable N (cond b (quantifier c y g f) (quantifier c y (replace x v g) (replace x v f)))
          pick true i j = h
          pick false i j = (h.0, i, j)

      replaces_storable : (fs : Formulas) → AllStorable N fs → AllStorable N (replaces x v fs)
      replaces_storable no_parts h = tt
      replaces_storable (part f fs) h = (replace_storable f h.0, replaces_storable fs h.1)

  -- What the rules make.

  without_storable : (b : Bool) (fs : Formulas) → AllStorable N fs → AllStorable N (without b fs)
  without_storable b no_parts h = tt
  without_storable b (part f fs) h = pick (is_truth b f) (without_storable b fs h.1)
    where
      pick : (d : Bool) → AllStorable N (without b fs) → AllStorable N (cond d (without b fs) (part f (without b fs)))
      pick true rest = rest
      pick false rest = (h.0, rest)

  unless_none_storable : (c : Side) (fs : Formulas) → AllStorable N fs → Storable N (unless_none c fs)
  unless_none_storable c no_parts h = tt
  unless_none_storable c (part f fs) h = h

  instances_storable : (P : Problem) (x : Name) (g f : Formula) → Storable N f → (vs : List ℕ) → Each (λ v. v < 256) vs → AllStorable N (instances P x g f vs)
  unfolding instances
  instances_storable P x g f h [] low = tt
  instances_storable P x g f h (v ∷ vs) low = pick (admits P x g v) (instances_storable P x g f h vs low.1)
    where
      pick : (b : Bool) → AllStorable N (instances P x g f vs) → AllStorable N (cond b (part (replace x v f) (instances P x g f vs)) (instances P x g f vs))
      pick true rest = (replace_storable x v low.0 f h, rest)
      pick false rest = rest

  module _ (P : Problem) (few : P.domain ≤ 64) where
    makes_storable : {r : Rule} {f h : Formula} → Makes P r f h → Storable N f → Storable N h
    makes_storable (absorbing c fs e) s = tt
    makes_storable (dropping c fs e) s = unless_none_storable c (without (unit c) fs) (without_storable (unit c) fs s)
    makes_storable (negating b) s = tt
    makes_storable (predicate p t ts i e) s = tt
    makes_storable (equality t u d e) s = tt
    makes_storable (proposition p i) s = tt
    makes_storable (instantiating c x g f e) s = instances_storable P x g f s.2 (elements_to P.domain) (each_count_from 256 1 P.domain (omega arith))

    exchanged_storable : {i : ℕ} {g h : Formula} {fs hs : Formulas} → Exchanged i g h fs hs → (Storable N g → Storable N h) → AllStorable N fs → AllStorable N hs
    exchanged_storable (first g h fs) k s = (k s.0, s.1)
    exchanged_storable (later i g h f fs hs e) k s = (s.0, exchanged_storable e k s.1)

    MakesAt_storable : {r : Rule} {path : List ℕ} {f h : Formula} → MakesAt P r path f h → Storable N f → Storable N h
    MakesAt_storable (here f h m) s = makes_storable m s
    MakesAt_storable (in_part i is o g h fs hs e m) s = exchanged_storable e (λ w. MakesAt_storable m w) s
    MakesAt_storable (in_guard is c x g h f m) s = (s.0, MakesAt_storable m s.1, s.2)
    MakesAt_storable (in_body is c x g f h m) s = (s.0, s.1, MakesAt_storable m s.2)

    -- what a rule makes at a path
    pub rule_storable : (r : Rule) (path : List ℕ) (f : Formula) → Storable N f → Allowed (Storable N) (at path (apply P r) f)
    rule_storable r path f s =
        allowed_weaken (MakesAt P r path f) (Storable N) (λ h m. MakesAt_storable m s) (at path (apply P r) f) (at_makes P r path f)
