-- One reading, one text, for the readers that the others are made of: what a reader reads has that text (`Reads`), and the text of a
-- thing is read as that thing (`ReadsBack`). By the laws of prefixes and of longest runs, and induction over the items of a list.
-- Assumes nothing.
use Prim.Native.Nat.{ℕ, suc, zero, ◌≤◌, ◌<◌}
use native.Mathlib.Omega.{arith}
use mathlib.Core.Path.{◌≡◌, refl, sym, ap, ap₂, ◌∙◌, subst}
use mathlib.Core.List.{List, [], ◌∷◌, ◌++◌, append-nil, append_assoc, map}
use mathlib.Core.Bool.{Bool, true, false, not, cond, ◌&&◌, false≢true}
use lib.Dec.{eqb}
use lib.ListN.{length, take, drop, length-append}
use lib.Seq.{take-append_seam, drop-append_seam}
use borrow.Author.Tests.{eqb-true, eq-eqb, ne_eqb, not-true}
use Rattle.grammar.specs.Bytes.{Bytes, next, every, is_digit, begins, span, joined, followed}
use Rattle.grammar.specs.Numbers.{is_number, decimal}
use Rattle.grammar.specs.Outcome.{done, provided}
use Rattle.grammar.specs.Reading.{Reading, give, refuse, require, ◌>>=◌, word, run, token, read_number, ◌⇒◌, one_of, further, separated}
use Rattle.grammar.specs.Each.{Each}
use Rattle.grammar.proofs.Laws.{and_left, and_right}
use Rattle.grammar.proofs.Numbers.{value-decimal, decimal-value, is_number-decimal, every-decimal}
use Rattle.grammar.proofs.Outcome.{Allowed, allowed_bind, allowed_mapped, allowed_weaken, allowed_provided}

-- each of a list, and there is one at least
abbrev pub OneOrMore : {A : Type 0} → (A → Type 0) → List A → Type 0
OneOrMore P [] = ⊥
OneOrMore P (a ∷ rest) = Each P (a ∷ rest)

pub each_some : {A : Type 0} (P : A → Type 0) (items : List A) → OneOrMore P items → Each P items
each_some P [] some = absurd some
each_some P (a ∷ items) some = some

-- What a reader reads has that text.

-- a thing was read at the head of a text s: it fits, and has the text that stood there
abbrev pub Read : {A : Type 0} → (A → Type 0) → (A → Bytes) → Bytes → A × Bytes → Type 0
Read Fits text s p = Fits p.0 × (s ≡ text p.0 ++ p.1)

-- whatever r reads behind some bytes fits, and has the text of these bytes and of those that r took
pub record Reads {A : Type 0} (before : Bytes) (Fits : A → Type 0) (text : A → Bytes) (r : Reading A) : Type 0 where
  pub sound : (s : Bytes) → Allowed (Read Fits text (before ++ s)) (r s)

module _ {A : Type 0} {before : Bytes} {Fits : A → Type 0} {text : A → Bytes} where
  pub reads-refuse : (number : ℕ) → Reads before Fits text (refuse number)
  reads-refuse number = record { sound = λ s. tt }

  pub reads-give : {a : A} → Fits a → before ≡ text a → Reads before Fits text (give a)
  reads-give fits e = record { sound = λ s. (fits, rw e) }

  pub reads_then : {B : Type 0} {Part : B → Type 0} {part_text : B → Bytes} {r : Reading B} → Reads [] Part part_text r → (k : B → Reading A)
      → ((b : B) → Part b → Reads (before ++ part_text b) Fits text (k b)) → Reads before Fits text (r >>= k)
  reads_then {B} {Part} {part_text} {r} first k rest =
      record { sound = λ s. allowed_bind (Read Part part_text s) (Read Fits text (before ++ s)) _ (onward s) (r s) (first.sound s) }
    where
      onward : (s : Bytes) (p : B × Bytes) → Read Part part_text s p → Allowed (Read Fits text (before ++ s)) (k p.0 p.1)
      onward s p q = rw (q.1, ← append_assoc) ((rest p.0 q.0).sound p.1)

  -- what is known to fit, and its text, may be put otherwise
  pub reads_weaken : {Part : A → Type 0} {part_text : A → Bytes} {r : Reading A} → Reads before Part part_text r
      → ((a : A) → Part a → Fits a × (part_text a ≡ text a)) → Reads before Fits text r
  reads_weaken {r = r} reads h =
      record { sound = λ s. allowed_weaken _ _ (λ p q. let k = h p.0 q.0 in (k.0, q.1 ∙ ap (λ t. t ++ p.1) k.1)) (r s) (reads.sound s) }

  -- one or other reader, by a test
  pub reads_cond : (test : Bytes → Bool) {r q : Reading A} → Reads before Fits text r → Reads before Fits text q
      → Reads before Fits text (λ s. cond (test s) r q s)
  reads_cond test {r} {q} one other = record { sound = λ s. pick s (test s) }
    where
      pick : (s : Bytes) (b : Bool) → Allowed (Read Fits text (before ++ s)) (cond b r q s)
      pick s true = one.sound s
      pick s false = other.sound s

pub reads-require : (number : ℕ) (test : Bool) → Reads [] (λ u. test ≡ true) (λ u. []) (require number test)
reads-require number true = record { sound = λ s. (refl, refl) }
reads-require number false = record { sound = λ s. tt }

-- a text that begins with a word is that word and the rest
pub begins-split : (w s : Bytes) → begins w s ≡ true → s ≡ w ++ drop (length w) s
begins-split [] s e = refl
begins-split (a ∷ w) [] e = absurd (false≢true e)
begins-split (a ∷ w) (b ∷ s) e =
    ap₂ (λ (k : ℕ) (ks : Bytes). k ∷ ks) (sym (eqb-true a b (and_left (eqb a b) _ e))) (begins-split w s (and_right (eqb a b) _ e))

pub reads_word : (number : ℕ) (w : Bytes) → Reads [] (λ u. Unit {0}) (λ u. w) (word number w)
unfolding word
reads_word number w =
    record { sound = λ s. allowed_mapped _ _ _ (λ u e. (tt, begins-split w s e)) (provided (begins w s) number) (allowed_provided (begins w s) number) }

module _ (class : ℕ → Bool) where
  -- a text is its longest run of a class and the rest
  pub span-split : (s : Bytes) → (every class (span class s) ≡ true) × (s ≡ span class s ++ drop (length (span class s)) s)
  unfolding span
  span-split [] = (refl, refl)
  span-split (b ∷ s) = pick (class b) refl (span-split s)
    where
      pick : (c : Bool) → class b ≡ c → (every class (span class s) ≡ true) × (s ≡ span class s ++ drop (length (span class s)) s)
          → let w : Bytes = elim c [ true ↦ b ∷ span class s | false ↦ [] ] in (every class w ≡ true) × (b ∷ s ≡ w ++ drop (length w) (b ∷ s))
      pick true e ih = (ap₂ ◌&&◌ e ih.0, ap (λ (t : Bytes). b ∷ t) ih.1)
      pick false e ih = (refl, refl)

  pub span-take : (s : Bytes) → take (length (span class s)) s ≡ span class s
  span-take s = ap (take (length (span class s))) (span-split s).1 ∙ take-append_seam (span class s) (drop (length (span class s)) s)

  reads-run : Reads [] (λ w. every class w ≡ true) (λ w. w) (run class)
  reads-run = record { sound = span-split }

  pub reads-token : (number : ℕ) (test : Bytes → Bool) → Reads [] (λ w. (every class w ≡ true) × (test w ≡ true)) (λ w. w) (token number class test)
  unfolding token
  reads-token number test = reads_then reads-run _ λ w all. reads_then (reads-require number (test w)) _ λ u passed. reads-give (all, passed) (append-nil w)

pub reads-number : (number : ℕ) → Reads [] (λ v. Unit {0}) decimal (read_number number)
unfolding read_number
reads-number number = reads_then (reads-token is_digit number is_number) _ λ ds h. reads-give tt (sym (decimal-value ds h.1))

module _ {A : Type 0} {before : Bytes} {Fits : A → Type 0} {text : A → Bytes} where
  -- r behind w where a test says that w stands there, and q where it does not
  reads_behind : (test : Bytes → Bool) (w : Bytes) → ((s : Bytes) → test s ≡ true → s ≡ w ++ drop (length w) s) → {r q : Reading A}
      → Reads (before ++ w) Fits text r → Reads before Fits text q → Reads before Fits text (λ s. cond (test s) (λ t. r (drop (length w) t)) q s)
  reads_behind test w stands {r} {q} one other = record { sound = λ s. pick s (test s) refl }
    where
      pick : (s : Bytes) (b : Bool) → test s ≡ b → Allowed (Read Fits text (before ++ s)) (cond b (λ t. r (drop (length w) t)) q s)
      pick s true e =
          subst (λ t. Allowed (Read Fits text t) (r (drop (length w) s)))
          (append_assoc before w _ ∙ ap (λ t. before ++ t) (sym (stands s e))) (one.sound (drop (length w) s))
      pick s false e = other.sound s

  pub reads-one_of : (kinds : List (Bytes × Reading A)) (last : Reading A) → Each (λ k. Reads (before ++ k.0) Fits text k.1) kinds
      → Reads before Fits text last → Reads before Fits text (one_of kinds last)
  unfolding one_of
  reads-one_of [] last each other = other
  reads-one_of (k ∷ kinds) last each other =
      reads_behind (begins k.0) k.0 (begins-split k.0) each.0 (reads-one_of kinds last each.1 other)

module _ {A : Type 0} {Fits : A → Type 0} {text : A → Bytes} {item : Reading A} (reads : Reads [] Fits text item)
    (separator : ℕ) (nonzero : 0 < separator) where
  next-split : (s : Bytes) → eqb (next s) separator ≡ true → s ≡ separator ∷ drop 1 s
  next-split [] e = let z = eqb-true 0 separator e in absurd (omega arith)
  next-split (b ∷ s) e = ap (λ (k : ℕ). k ∷ s) (eqb-true b separator e)

  reads-further : (most : ℕ) → Reads [] (Each Fits) (λ items. followed separator (map text items)) (further separator item most)
  unfolding further
  reads-further zero = reads-give tt refl
  reads-further (suc most) =
      reads_behind (λ s. eqb (next s) separator) (separator ∷ []) next-split
      (reads_then reads _ λ a fits. reads_then (reads-further most) _ λ rest each. reads-give (fits, each) refl)
      (reads-give tt refl)

  reads_rest : Reads [] (Each Fits) (λ items. followed separator (map text items)) (λ s. further separator item (length s) s)
  reads_rest = record { sound = λ s. (reads-further (length s)).sound s }

  pub reads-separated : Reads [] (OneOrMore Fits) (λ items. joined separator (map text items)) (separated separator item)
  unfolding separated
  reads-separated = reads_then reads _ λ a fits. reads_then reads_rest _ λ rest each. reads-give (fits, each) refl

-- The text of a thing is read as that thing.

-- r reads the text of a as a, where no byte of a class follows that could belong to it
abbrev pub ReadsBack : {A : Type 0} → (ℕ → Bool) → (A → Bytes) → Reading A → A → Type 0
ReadsBack class text r a = (u : Bytes) → class (next u) ≡ false → r (text a ++ u) ≡ done (a, u)

begins-append : (w u : Bytes) → begins w (w ++ u) ≡ true
begins-append [] u = refl
begins-append (b ∷ w) u = ap₂ ◌&&◌ (eq-eqb b b refl) (begins-append w u)

pub read_word : (number : ℕ) (w u : Bytes) → word number w (w ++ u) ≡ done (tt, u)
unfolding word
read_word number w u = rw (begins-append w u, drop-append_seam w u)

span-append : (class : ℕ → Bool) (w u : Bytes) → every class w ≡ true → class (next u) ≡ false → span class (w ++ u) ≡ w
unfolding span
span-append class [] [] all ends = refl
span-append class [] (b ∷ u) all ends = rw (ends, span)
span-append class (b ∷ w) u all ends =
    rw (and_left (class b) _ all, span) (ap (λ (t : Bytes). b ∷ t) (span-append class w u (and_right (class b) _ all) ends))

pub read_token : (number : ℕ) (class : ℕ → Bool) (test : Bytes → Bool) (w : Bytes) → every class w ≡ true → test w ≡ true
    → ReadsBack class (λ w. w) (token number class test) w
unfolding token
read_token number class test w all passed u ends = rw (span-append class w u all ends, passed, drop-append_seam w u)

pub read_number_lem : (number v : ℕ) → ReadsBack is_digit decimal (read_number number) v
unfolding read_number
read_number_lem number v u ends =
    rw (read_token number is_digit is_number (decimal v) (every-decimal v) (is_number-decimal v) u ends, value-decimal v)

module _ {A : Type 0} (class : ℕ → Bool) (text : A → Bytes) (item : Reading A) (separator : ℕ) (ends : class separator ≡ false) where
  followed-ends : (items : List A) (u : Bytes) → class (next u) ≡ false → class (next (followed separator (map text items) ++ u)) ≡ false
  followed-ends [] u closed = closed
  followed-ends (a ∷ items) u closed = ends

  -- as each item is read back, and neither it nor another goes on behind them
  module _ (u : Bytes) (closed : class (next u) ≡ false) (last : eqb (next u) separator ≡ false) where
    read_further : (items : List A) (most : ℕ) → length items ≤ most → Each (ReadsBack class text item) items
        → further separator item most (followed separator (map text items) ++ u) ≡ done (items, u)
    unfolding further
    read_further [] zero enough each = refl
    read_further [] (suc most) enough each = rw last
    read_further (a ∷ items) zero enough each = absurd (omega arith)
    read_further (a ∷ items) (suc most) enough each =
        rw (eq-eqb separator separator refl, append_assoc (text a), each.0 _ (followed-ends items u closed), read_further items most (omega arith) each.1)

    length-followed : (items : List A) → length items ≤ length (followed separator (map text items) ++ u)
    length-followed [] = omega arith
    length-followed (a ∷ items) = rw (append_assoc (text a), length-append (text a)) (omega (arith, length-followed items))

    pub read_separated : (a : A) (items : List A) → Each (ReadsBack class text item) (a ∷ items)
        → separated separator item (joined separator (map text (a ∷ items)) ++ u) ≡ done (a ∷ items, u)
    unfolding separated
    read_separated a items each =
        rw (append_assoc (text a), each.0 _ (followed-ends items u closed), read_further items _ (length-followed items) each.1)

-- a text begins as its first part does, which is not empty
pub next-append : (class : ℕ → Bool) (w u : Bytes) → class 0 ≡ false → class (next w) ≡ true → class (next (w ++ u)) ≡ true
next-append class [] u none first = absurd (false≢true (sym none ∙ first))
next-append class (b ∷ w) u none first = first

pub one_of-word : {A : Type 0} (w : Bytes) (r : Reading A) (kinds : List (Bytes × Reading A)) (last : Reading A) (u : Bytes)
    → one_of (w ⇒ r ∷ kinds) last (w ++ u) ≡ r u
unfolding one_of
one_of-word w r kinds last u = rw (begins-append w u, drop-append_seam w u)

-- every word begins with a byte, and that is not of the class
abbrev pub begin_outside : {A : Type 0} → (ℕ → Bool) → List (Bytes × Reading A) → Bool
begin_outside class [] = true
begin_outside class (([], r) ∷ kinds) = false
begin_outside class ((b ∷ w, r) ∷ kinds) = not (class b) && begin_outside class kinds

begins_outside : (class : ℕ → Bool) (b : ℕ) (w s : Bytes) → not (class b) ≡ true → class (next s) ≡ true → begins (b ∷ w) s ≡ false
begins_outside class b w [] outside inside = refl
begins_outside class b w (c ∷ s) outside inside = rw (ne_eqb b c (λ e. false≢true (sym (not-true (class b) outside) ∙ ap class e ∙ inside)))

pub one_of-last : {A : Type 0} (class : ℕ → Bool) (kinds : List (Bytes × Reading A)) (last : Reading A) (s : Bytes)
    → begin_outside class kinds ≡ true → class (next s) ≡ true → one_of kinds last s ≡ last s
unfolding one_of
one_of-last class [] last s outside inside = refl
one_of-last class (([], r) ∷ kinds) last s outside inside = absurd (false≢true outside)
one_of-last class ((b ∷ w, r) ∷ kinds) last s outside inside =
    rw (begins_outside class b w s (and_left (not (class b)) _ outside) inside)
    (one_of-last class kinds last s (and_right (not (class b)) _ outside) inside)
