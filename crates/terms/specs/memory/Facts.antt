-- What is told of a formula, or of formulas, as they are read, by the definitions; and how what is told of parts is put together.
use Rattle.std.specs.Prelude.{◌+◌, max, Bool, true, false, ◌&&◌}
use Rattle.grammar.specs.Problem.{Name, Problem, is_input}
use Rattle.logic.specs.Formula.{Side, all, any, Connective, negation, implies, implied_by, equivalent, junction, Formula, Formulas, no_parts, part}
use Rattle.logic.specs.Names.{known, all_known, closed, all_closed}
use Rattle.logic.specs.Normal.{all_mention_only, inputs_only, is_simple, has_form, all_have_form}
use Rattle.logic.specs.Limits.{quantifiers, most_quantifiers, guard_quantifiers, most_guard_quantifiers}
use Rattle.terms.specs.declared.fact.Facts.{Facts}

abbrev pub all_simple : Formulas → Bool
all_simple no_parts = true
all_simple (part f fs) = is_simple f && all_simple fs

-- of a problem's formulas, where some variables are bound around them
module _ (P : Problem) (bound : Name → Bool) where
  unfoldable pub facts_of : Formula → Facts
  facts_of f =
      record {
        named = known P f && closed bound f;
        simple = is_simple f;
        disjunctive = has_form P any f;
        normal = has_form P all f;
        inputs = inputs_only P f;
        quantifiers = quantifiers f;
        guarded = guard_quantifiers f;
      }

  unfoldable pub all_facts_of : Formulas → Facts
  all_facts_of fs =
      record {
        named = all_known P fs && all_closed bound fs;
        simple = all_simple fs;
        disjunctive = all_have_form P any fs;
        normal = all_have_form P all fs;
        inputs = all_mention_only (is_input P) fs;
        quantifiers = most_quantifiers fs;
        guarded = most_guard_quantifiers fs;
      }

-- of a truth value, an atom or an equality; or of no formulas
abbrev pub simple_facts : Bool → Bool → Facts
simple_facts named inputs =
    record { named = named; simple = true; disjunctive = true; normal = true; inputs = inputs; quantifiers = 0; guarded = 0 }

-- of formulas and others behind them
abbrev pub beside : Facts → Facts → Facts
beside a b =
    record {
      named = a.named && b.named;
      simple = a.simple && b.simple;
      disjunctive = a.disjunctive && b.disjunctive;
      normal = a.normal && b.normal;
      inputs = a.inputs && b.inputs;
      quantifiers = max a.quantifiers b.quantifiers;
      guarded = max a.guarded b.guarded;
    }

-- of a connective, by what is told of its parts
abbrev pub with_form : Facts → Bool → Bool → Facts
with_form a disjunctive normal =
    record {
      named = a.named;
      simple = false;
      disjunctive = disjunctive;
      normal = normal;
      inputs = a.inputs;
      quantifiers = a.quantifiers;
      guarded = a.guarded;
    }

abbrev pub connective_facts : Connective → Facts → Facts
connective_facts negation a = with_form a a.simple a.simple
connective_facts implies a = with_form a false false
connective_facts implied_by a = with_form a false false
connective_facts equivalent a = with_form a false false
connective_facts (junction all) a = with_form a false a.normal
connective_facts (junction any) a = with_form a a.disjunctive a.disjunctive

-- of a quantifier, by what is told of its guard and its body
abbrev pub quantified : Facts → Facts → Bool → Bool → Facts
quantified guard body disjunctive normal =
    record {
      named = guard.named && body.named;
      simple = false;
      disjunctive = disjunctive;
      normal = normal;
      inputs = guard.inputs && body.inputs;
      quantifiers = max guard.quantifiers body.quantifiers + 1;
      guarded = max guard.quantifiers body.guarded;
    }

abbrev pub quantifier_facts : Side → Facts → Facts → Facts
quantifier_facts all guard body = quantified guard body false (guard.inputs && body.normal)
quantifier_facts any guard body = quantified guard body (guard.inputs && body.disjunctive) (guard.inputs && body.disjunctive)
