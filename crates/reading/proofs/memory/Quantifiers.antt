-- Quantifiers at a place of the theory's text: a variable, and a guard and a body within its binding.
-- Assumes nothing.
use Prim.Native.Nat.{ℕ, ◌+◌, ◌*◌, ◌≤◌}
use native.Mathlib.Omega.{arith}
use mathlib.Core.Path.{◌≡◌, refl, sym, subst, ◌∙◌}
use mathlib.Core.List.{List}
use mathlib.Core.Bool.{true, false}
use lib.ListN.{length, drop, set}
use lib.Seq.{drop-drop}
use Rattle.std.specs.Prelude.{Ok}
use Rattle.grammar.specs.Bytes.{Bytes, bytes, next, begins}
use Rattle.grammar.specs.Outcome.{Outcome, done, refused}
use Rattle.grammar.specs.Outcome as outcome
use Rattle.grammar.specs.Reading.{Reading, word}
use Rattle.grammar.specs.Problem.{Name}
use Rattle.logic.specs.Formula.{Side, Formula, quantifier, size}
use Rattle.logic.specs.Names.{known, besides}
use Rattle.logic.specs.Limits.{variables}
use Rattle.logic.specs.Reading.{read_variable, read_quantifier}
use Rattle.text.specs.memory.Found.{Taken}
use Rattle.text.proofs.Found.{word-found}
use Rattle.text.proofs.FoundBytes.{byte_found}
use Rattle.words.specs.memory.Words.{quantifier_tag, words}
use Rattle.words.proofs.memory.Words.{words_size}
use Rattle.terms.specs.memory.Facts.{facts_of, quantifier_facts}
use Rattle.terms.specs.declared.name_table.NameTable.{NameTable}
use Rattle.terms.specs.memory.NameTable.{NameListed}
use Rattle.terms.specs.memory.Entries.{Setting, Memory, memory}
use Rattle.terms.proofs.memory.Facts.{facts_quantifier, quantifiers-size}
use Rattle.terms.proofs.memory.Lists.{byte_read, byte_refused}
use Rattle.terms.proofs.memory.Entries.{entered_then, entered-index}
use Rattle.reading.specs.memory.FormulaReads.{read_to, Found, ToldBehind}
use Rattle.reading.specs.memory.PartReads.{read_guarded, GuardedFound}
use Rattle.text.specs.declared.read.Read.{Read}
use Rattle.reading.specs.declared.read.Measured.{Measured}
use Rattle.reading.specs.declared.read.Guarded.{Guarded}
use Rattle.reading.proofs.memory.PartReads.{words_goes}

-- A guard and a body.

module _ (s : Setting) (r : Reading Formula) (at : ℕ) (old : Memory) (to : ℕ) where
  pub guarded-refused : (number : ℕ) → r (drop at s.text) ≡ refused number → read_guarded r (drop at s.text) ≡ refused number
  unfolding read_guarded
  guarded-refused number e = rw e

  module _ (guard : Read Measured) (mid : Memory) (g : Found r s at old to guard mid) where
    pub guarded_open : begins (bytes "]:") (drop guard.next s.text) ≡ false → read_guarded r (drop at s.text) ≡ refused 5
    unfolding read_guarded word
    guarded_open e = rw (g.is, e)

    module _ (e : begins (bytes "]:") (drop guard.next s.text) ≡ true) where
      pub guarded-within : guard.next + 2 ≤ length s.text
      guarded-within = (word-found s.text guard.next (bytes "]:") g.within e).within

      pub guarded_bodiless : (number : ℕ) → r (drop (guard.next + 2) s.text) ≡ refused number → read_guarded r (drop at s.text) ≡ refused number
      unfolding read_guarded word
      guarded_bodiless number k = rw (g.is, e, drop-drop 2 guard.next s.text, k)

      pub guarded-found : (body : Read Measured) (new : Memory) → Found r s (guard.next + 2) mid (to + guard.value.size) body new
          → GuardedFound (read_guarded r) s at old to
          (record { value = record { size = guard.value.size + body.value.size; guard = guard.value.facts; body = body.value.facts }; next = body.next }) new
      unfolding read_guarded word
      guarded-found body new f =
          record {
            first = g.formula;
            second = f.formula;
            is = rw (g.is, e, drop-drop 2 guard.next s.text, f.is);
            measured = omega (arith, g.measured, f.measured);
            guard_judged = g.judged;
            body_judged = f.judged;
            after = omega (arith, g.after, f.after);
            within = f.within;
            entered = entered_then s.text g.entered (words_goes s.index g.formula) (λ ix. words_size ix s.index g.formula ∙ sym g.measured) f.entered;
          }

-- quantifiers on a path are no more than the text's bytes
module _ (reader : Reading (Formula × Formula)) (s : Setting) (at : ℕ) (old : Memory) (to : ℕ) (q : Read Guarded) (new : Memory)
    (p : GuardedFound reader s at old to q new) where
  pub guarded-few : length s.text ≤ 65536 → (q.value.guard.quantifiers ≤ 65536) × (q.value.body.quantifiers ≤ 65536)
  unfolding facts_of
  guarded-few h = (
    rw p.guard_judged (omega (arith, quantifiers-size p.first, p.measured, p.after, p.within)),
    rw p.body_judged (omega (arith, quantifiers-size p.second, p.measured, p.after, p.within)),
  )

-- What follows a quantifier's sign.

-- behind the variable and the bracket
within_binding : Reading Formula → Side → Name → Reading Formula
within_binding r c x u = outcome.◌>>=◌ (read_guarded r u) λ q. done (quantifier c x q.0.0 q.0.1, q.1)

module _ (r : Reading Formula) (c : Side) (x : Name) where
  binding_is : (u : Bytes)
      → (outcome.◌>>=◌ (r u) λ p. outcome.◌>>=◌ (word 5 (bytes "]:") p.1) λ z. outcome.◌>>=◌ (r z.1) λ q. done (quantifier c x p.0 q.0, q.1))
      ≡ within_binding r c x u
  unfolding within_binding read_guarded
  binding_is u = guard (r u)
    where
      body : (g : Formula) (o : Outcome ℕ (Formula × Bytes))
          → (outcome.◌>>=◌ {B = Formula × Bytes} o λ q. done (quantifier c x g q.0, q.1))
          ≡ (outcome.◌>>=◌ {A = (Formula × Formula) × Bytes} (outcome.◌>>=◌ o λ q. done ((g, q.0), q.1)) λ q. done (quantifier c x q.0.0 q.0.1, q.1))
      body g (done q) = refl
      body g (refused number) = refl

      between : (g : Formula) (o : Outcome ℕ (Unit {0} × Bytes))
          → (outcome.◌>>=◌ {B = Formula × Bytes} o λ z. outcome.◌>>=◌ (r z.1) λ q. done (quantifier c x g q.0, q.1))
          ≡ (outcome.◌>>=◌ {A = (Formula × Formula) × Bytes} (outcome.◌>>=◌ o λ z. outcome.◌>>=◌ (r z.1) λ q. done ((g, q.0), q.1))
          λ q. done (quantifier c x q.0.0 q.0.1, q.1))
      between g (done z) = body g (r z.1)
      between g (refused number) = refl

      guard : (o : Outcome ℕ (Formula × Bytes))
          → (outcome.◌>>=◌ {B = Formula × Bytes} o λ p. outcome.◌>>=◌ (word 5 (bytes "]:") p.1) λ z. outcome.◌>>=◌ (r z.1) λ q. done (quantifier c x p.0 q.0, q.1))
          ≡ (outcome.◌>>=◌ {A = (Formula × Formula) × Bytes} (outcome.◌>>=◌ o λ p. outcome.◌>>=◌ (word 5 (bytes "]:") p.1) λ z. outcome.◌>>=◌ (r z.1) λ q. done ((p.0, q.0), q.1))
          λ q. done (quantifier c x q.0.0 q.0.1, q.1))
      guard (done p) = between p.0 (word 5 (bytes "]:") p.1)
      guard (refused number) = refl

module _ (s : Setting) (r : Reading Formula) (c : Side) (at : ℕ) where
  pub quantifier_nameless : read_variable (drop at s.text) ≡ refused 5 → read_quantifier r c (drop at s.text) ≡ refused 5
  unfolding read_quantifier
  quantifier_nameless e = rw e

  module _ (x : Name) (end : ℕ) (w : Taken read_variable s.text at x end) where
    pub quantifier_open : (next (drop end s.text) ≡ 91 → ⊥) → read_quantifier r c (drop at s.text) ≡ refused 5
    unfolding read_quantifier
    quantifier_open h = rw (w.is, byte_refused s.text end 91 (omega arith) 5 h)

    module _ (h : next (drop end s.text) ≡ 91) where
      pub bracket_within : end + 1 ≤ length s.text
      bracket_within = (byte_found s.text end 91 (omega arith) h).within

      quantifier-is : read_quantifier r c (drop at s.text) ≡ within_binding r c x (drop (end + 1) s.text)
      unfolding read_quantifier
      quantifier-is = rw (w.is, byte_read s.text end 91 (omega arith) 5 h) (binding_is r c x (drop (end + 1) s.text))

      pub quantifier-refused : (number : ℕ) → read_guarded r (drop (end + 1) s.text) ≡ refused number → read_quantifier r c (drop at s.text) ≡ refused number
      unfolding within_binding
      quantifier-refused number e = quantifier-is ∙ rw e

      abbrev inside : Setting
      inside = record s { bound = besides x s.bound }

      pub quantifier-found : (inner : Setting) → inner ≡ inside → (old between : NameTable) (work : List ℕ) (to index : ℕ) → NameListed s.text x old between index
          → (q : Read Guarded) (names : NameTable) (mid : List ℕ) → GuardedFound (read_guarded r) inner (end + 1) (memory between work) (to + 1) q (memory names mid)
          → ToldBehind (read_quantifier r c) s at (memory old work) to (Ok (read_to (q.value.size + 1) (quantifier_facts c q.value.guard q.value.body) q.next))
          (memory names (set mid to (index * 16 + quantifier_tag c)))
      unfolding size variables known words within_binding
      quantifier-found inner binds old between work to index listed q names mid found reader sign same less =
          let f : GuardedFound (read_guarded r) inside (end + 1) (memory between work) (to + 1) q (memory names mid) =
          subst (λ i. GuardedFound (read_guarded r) i (end + 1) (memory between work) (to + 1) q (memory names mid)) binds found in
          record {
            formula = quantifier c x f.first f.second;
            is = same ∙ quantifier-is ∙ rw f.is;
            measured = omega (arith, f.measured);
            judged = rw (f.guard_judged, f.body_judged) (sym (facts_quantifier s.problem s.bound c x f.first f.second));
            after = omega (arith, w.after, f.after);
            within = f.within;
            entered = entered-index s.text (quantifier_tag c) listed f.entered;
          }
