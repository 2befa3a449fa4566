-- Readings: what is found at the head of a text, with the rest of it, or the number that it is refused with.
use Rattle.std.specs.Prelude.{ℕ, suc, zero, List, [], ◌∷◌, Bool, cond, eqb, length, drop}
use Rattle.grammar.specs.Bytes.{Bytes, next, begins, span, is_digit}
use Rattle.grammar.specs.Numbers.{is_number, value}
use Rattle.grammar.specs.Outcome.{Outcome, done, refused, mapped, provided}
use Rattle.grammar.specs.Outcome as outcome

abbrev pub Reading : Type 0 → Type 0
Reading A = Bytes → Outcome ℕ (A × Bytes)

infixl 10 ◌>>=◌
infixl 10 ◌>>◌
infix 80 ◌⇒◌
-- nothing is read, and the answer is known
abbrev pub give : {A : Type 0} → A → Reading A
give a s = done (a, s)

abbrev pub refuse : {A : Type 0} → ℕ → Reading A
refuse number s = refused number

-- one reading after another
abbrev pub ◌>>=◌ : {A B : Type 0} → Reading A → (A → Reading B) → Reading B
◌>>=◌ r k s = outcome.◌>>=◌ (r s) (λ p. k p.0 p.1)

abbrev pub ◌>>◌ : {A B : Type 0} → Reading A → Reading B → Reading B
◌>>◌ r q = r >>= λ a. q

-- nothing is read, and a judgement is passed
abbrev pub judge : {A : Type 0} → Outcome ℕ A → Reading A
judge o s = mapped (λ a. (a, s)) o

abbrev pub require : ℕ → Bool → Reading (Unit {0})
require number test = judge (provided test number)

-- just these bytes
unfoldable pub word : ℕ → Bytes → Reading (Unit {0})
word number w s = mapped (λ u. (u, drop (length w) s)) (provided (begins w s) number)

-- the longest run of bytes of a class
abbrev pub run : (ℕ → Bool) → Reading Bytes
run class s = done (span class s, drop (length (span class s)) s)

-- the longest run of bytes of a class, if it passes a test
unfoldable pub token : ℕ → (ℕ → Bool) → (Bytes → Bool) → Reading Bytes
token number class test = do
  w ← run class
  require number (test w)
  give w

-- a number without leading zeros, of any length
unfoldable pub read_number : ℕ → Reading ℕ
read_number number = do
  ds ← token number is_digit is_number
  give (value ds)

-- a word and what is read after it
abbrev pub ◌⇒◌ : {A : Type 0} → Bytes → Reading A → Bytes × Reading A
◌⇒◌ w r = (w, r)

-- by the first word that the text begins with; else by the last reading
unfoldable pub one_of : {A : Type 0} → List (Bytes × Reading A) → Reading A → Reading A
one_of [] r s = r s
one_of (a ∷ rest) r s = cond (begins a.0 s) (λ t. a.1 (drop (length a.0) t)) (one_of rest r) s

-- further items, each after a separator; every one takes a byte, so the text's length is bound enough
unfoldable pub further : {A : Type 0} → ℕ → Reading A → ℕ → Reading (List A)
further separator item zero s = done ([], s)
further separator item (suc most) s =
    cond (eqb (next s) separator)
    (λ t. (do a ← item; rest ← further separator item most; give (a ∷ rest)) (drop 1 t))
    (give []) s

-- one item or more, with separators between them
unfoldable pub separated : {A : Type 0} → ℕ → Reading A → Reading (List A)
separated separator item = do
  a ← item
  rest ← λ s. further separator item (length s) s
  give (a ∷ rest)
