-- A text read line by line: what every line keeps holds at the end, and what is read is a run of lines; by induction on the bound.
-- And the place and the bytes of a refused line, by induction on the text.
-- Assumes nothing.
use Prim.Native.Nat.{ℕ, suc, zero, ◌+◌, ◌-◌, ◌≤◌, ◌<◌, max}
use native.Mathlib.Numerals.{add-one, sub-one}
use native.Mathlib.Omega.{arith}
use mathlib.Core.Path.{◌≡◌, refl, ap, ◌∙◌}
use mathlib.Core.Logic.{◌↔◌}
use mathlib.Core.List.{[], ◌∷◌, ◌++◌, append-nil}
use mathlib.Core.Bool.{Bool, true, false, cond, not}
use lib.ListN.{length, take, drop, length-append}
use lib.Seq.{take-append_seam, drop-append-add, drop-length, take-length}
use borrow.Author.Tests.{not-true}
use Rattle.grammar.specs.Bytes.{Bytes, every}
use Rattle.grammar.specs.Outcome.{Outcome, done, refused, ◌>>=◌}
use Rattle.grammar.specs.Reading.{Reading}
use Rattle.grammar.specs.Lines.{on_line, read_lines, read_text, is_lf, line_size, lines_size, line_start, refused_line}
use Rattle.grammar.proofs.Laws.{and_left, and_right}
use Rattle.grammar.proofs.Reading.{Reads}
use Rattle.grammar.proofs.Outcome.{Allowed, allowed_bind, allowed_weaken, allowed_done, allowed_itself}

-- where a refusal is reported makes no difference to what is allowed
allowed_on_line : {A : Type 0} (Q : A → Type 0) (file line : ℕ) (o : Outcome ℕ A) → Allowed Q o → Allowed Q (on_line file line o)
allowed_on_line Q file line (done a) q = q
allowed_on_line Q file line (refused number) q = tt

-- one line of a text, and its end
module _ {S A : Type 0} (file : ℕ) (line : S → Reading S) (finish : S → Outcome ℕ A) where
  pub read_lines-step : (most k : ℕ) (state : S) (s : Bytes) → 0 < most → 0 < length s
      → read_lines file line finish most k state s ≡ (on_line file k (line state s) >>= λ p. read_lines file line finish (most - 1) (k + 1) p.0 p.1)
  unfolding read_lines
  read_lines-step zero k state s h l = absurd (omega arith)
  read_lines-step (suc most) k state [] h l = absurd (omega arith)
  read_lines-step (suc most) k state (b ∷ s) h l = rw (sub-one (suc most), add-one k)

  pub read_lines-end : (most k : ℕ) (state : S) → read_lines file line finish most k state [] ≡ on_line file k (finish state)
  unfolding read_lines
  read_lines-end zero k state = refl
  read_lines-end (suc most) k state = refl

-- what every line keeps of the bound, the state and the text holds at the end
module _ {S A : Type 0} (file : ℕ) (line : S → Reading S) (finish : S → Outcome ℕ A) (I : ℕ → S → Bytes → Type 0) (W : A → Type 0)
    (keeps : (most : ℕ) (state : S) (b : ℕ) (s : Bytes) → I (suc most) state (b ∷ s) → Allowed (λ p. I most p.0 p.1) (line state (b ∷ s)))
    (stops : (state : S) (s : Bytes) → I zero state s → Allowed W (finish state))
    (ends : (most : ℕ) (state : S) → I (suc most) state [] → Allowed W (finish state)) where
  read_lines_leads : (most k : ℕ) (state : S) (s : Bytes) → I most state s → Allowed W (read_lines file line finish most k state s)
  unfolding read_lines
  read_lines_leads zero k state s i = allowed_on_line W file k (finish state) (stops state s i)
  read_lines_leads (suc most) k state [] i = allowed_on_line W file k (finish state) (ends most state i)
  read_lines_leads (suc most) k state (b ∷ s) i =
      allowed_bind (λ p. I most p.0 p.1) W (λ p. read_lines file line finish most (suc k) p.0 p.1)
      (λ p j. read_lines_leads most (suc k) p.0 p.1 j)
      (on_line file k (line state (b ∷ s))) (allowed_on_line (λ p. I most p.0 p.1) file k (line state (b ∷ s)) (keeps most state b s i))

-- so an invariant of the state
module _ {S A : Type 0} (file : ℕ) (line : S → Reading S) (finish : S → Outcome ℕ A) (I : S → Type 0) (W : A → Type 0)
    (keeps : (state : S) (s : Bytes) → I state → Allowed (λ p. I p.0) (line state s))
    (ends : (state : S) → I state → Allowed W (finish state)) where
  pub read_lines_keeps : (most k : ℕ) (state : S) (s : Bytes) → I state → Allowed W (read_lines file line finish most k state s)
  read_lines_keeps =
      read_lines_leads file line finish (λ most state s. I state) W
      (λ most state b s i. keeps state (b ∷ s) i) (λ state s i. ends state i) (λ most state i. ends state i)

  pub read_text_keeps : (state : S) (s : Bytes) → I state → Allowed W (read_text file line finish state s)
  read_text_keeps state s i = read_lines_keeps (length s) 1 state s i

-- and an invariant of the state and the rest of the text, where every line takes a byte
module _ {S A : Type 0} (file : ℕ) (line : S → Reading S) (finish : S → Outcome ℕ A) (I : S → Bytes → Type 0) (W : A → Type 0)
    (keeps : (state : S) (b : ℕ) (s : Bytes) → I state (b ∷ s) → Allowed (λ p. I p.0 p.1 × (length p.1 ≤ length s)) (line state (b ∷ s)))
    (ends : (state : S) → I state [] → Allowed W (finish state)) where
  pub read_text_leads : (state : S) (s : Bytes) → I state s → Allowed W (read_text file line finish state s)
  read_text_leads state s i =
      read_lines_leads file line finish Within W
      (λ most state b s j. allowed_weaken _ _ (λ p h. (h.0, omega arith)) (line state (b ∷ s)) (keeps state b s j.0)) stops (λ most state j. ends state j.0)
      (length s) 1 state s (i, omega arith)
    where
      Within : ℕ → S → Bytes → Type 0
      Within most state s = I state s × (length s ≤ most)

      stops : (state : S) (s : Bytes) → I state s × (length s ≤ 0) → Allowed W (finish state)
      stops state [] j = ends state j.0
      stops state (b ∷ s) j = absurd (omega arith)

-- where the state has the text of what is read so far, the answer has that of all
module _ {S A : Type 0} (file : ℕ) (line : S → Reading S) (finish : S → Outcome ℕ A) (I : S → Type 0) (text : S → Bytes) (W : Bytes → A → Type 0)
    (reads : (state : S) → I state → Reads (text state) (λ next. I next × (length (text state) < length (text next))) text (line state))
    (ends : (state : S) → I state → Allowed (W (text state)) (finish state)) where
  pub read_text-reads : (state : S) (s : Bytes) → I state → Allowed (W (text state ++ s)) (read_text file line finish state s)
  read_text-reads first whole i =
      read_text_leads file line finish (λ state s. I state × (text first ++ whole ≡ text state ++ s)) (W (text first ++ whole))
      (λ state b s j. allowed_weaken _ _
      (λ p q. ((q.0.0, j.1 ∙ q.1), omega (arith, simp length-append at (ap length q.1), q.0.1)))
      (line state (b ∷ s)) ((reads state j.0).sound (b ∷ s)))
      (λ state j. rw (j.1, append-nil) (ends state j.0))
      first whole (i, refl)

-- A run of lines.

-- from a state and a text to the text's end
pub data Run {S : Type 0} (line : S → Reading S) : S → Bytes → S → Type 0 where
  rest : (state : S) → Run line state [] state
  more : (state u v : S) (b : ℕ) (s t : Bytes) → line state (b ∷ s) ≡ done (u, t) → Run line u t v → Run line state (b ∷ s) v

-- and to a state that is finished with an answer
pub record RunsTo {S A : Type 0} (line : S → Reading S) (finish : S → Outcome ℕ A) (state : S) (s : Bytes) (a : A) : Type 0 where
  pub last : S
  pub run : Run line state s last
  pub answer : finish last ≡ done a

module _ {S A : Type 0} (file : ℕ) (line : S → Reading S) (finish : S → Outcome ℕ A)
    (shrinks : (state : S) (s : Bytes) → Allowed (λ p. length p.1 < length s) (line state s)) where
  shorter : (state : S) (s : Bytes) (p : S × Bytes) → line state s ≡ done p → length p.1 < length s
  shorter state s p = allowed_done _ (line state s) p (shrinks state s)

  -- a line before a run
  pub run_more : (state u v : S) (s t : Bytes) → line state s ≡ done (u, t) → Run line u t v → Run line state s v
  run_more state u v [] t e r = absurd (omega (arith, shorter state [] (u, t) e))
  run_more state u v (b ∷ s) t e r = more state u v b s t e r

  -- the lines read so far go before any run of the others
  pub read_text_runs : (state : S) (s : Bytes) → Allowed (RunsTo line finish state s) (read_text file line finish state s)
  read_text_runs first whole =
      read_text_leads file line finish (λ state s. (v : S) → Run line state s v → Run line first whole v) (RunsTo line finish first whole)
      (λ state b s i. allowed_weaken _ _
      (λ p e. (λ v r. i v (more state p.0 v b s p.1 e r), omega (arith, shorter state (b ∷ s) p e)))
      (line state (b ∷ s)) (allowed_itself (line state (b ∷ s))))
      (λ state i. allowed_weaken _ _ (λ a e. record { last = state; run = i state (rest state); answer = e }) (finish state) (allowed_itself (finish state)))
      first whole (λ v r. r)

  run-read_lines : (a : A) (most k : ℕ) (state v : S) (s : Bytes) → length s ≤ most → Run line state s v → finish v ≡ done a
      → read_lines file line finish most k state s ≡ done a
  unfolding read_lines
  run-read_lines a zero k state v s h (rest w) e = rw e
  run-read_lines a zero k state v s h (more w u x b r t l n) e = absurd (omega arith)
  run-read_lines a (suc most) k state v s h (rest w) e = rw e
  run-read_lines a (suc most) k state v s h (more w u x b r t l n) e = rw l (run-read_lines a most (suc k) u x t (omega (arith, shorter w (b ∷ r) (u, t) l)) n e)

  -- exactly what a run of lines gives is read
  pub read_text_exactly : (state : S) (s : Bytes) (a : A) → (read_text file line finish state s ≡ done a) ↔ RunsTo line finish state s a
  read_text_exactly state s a = (
    allowed_done (RunsTo line finish state s) (read_text file line finish state s) a (read_text_runs state s),
    λ r. run-read_lines a (length s) 1 state r.last s (omega arith) r.run r.answer,
  )

-- The refused line.

abbrev pub not_lf : ℕ → Bool
not_lf b = not (is_lf b)

-- the lines of a text, an end without LF counted
abbrev pub line_count : Bytes → ℕ
line_count [] = 0
line_count (b ∷ s) = cond (is_lf b) (suc (line_count s)) (max 1 (line_count s))

no_LF_before : (s : Bytes) → every not_lf (take (line_size s) s) ≡ true
no_LF_before [] = refl
no_LF_before (b ∷ s) = pick (is_lf b) refl (no_LF_before s)
  where
    pick : (c : Bool) → is_lf b ≡ c → every not_lf (take (line_size s) s) ≡ true → every not_lf (take (cond c 0 (suc (line_size s))) (b ∷ s)) ≡ true
    pick true e h = refl
    pick false e h = rw (e, h)

pub refused_line_no_LF : (s : Bytes) (line : ℕ) → every not_lf (refused_line s line) ≡ true
refused_line_no_LF s line = no_LF_before (drop (line_start s line) s)

pub line_start-first : (s : Bytes) → line_start s 1 ≡ 0
line_start-first [] = refl
line_start-first (b ∷ s) = refl

-- a text without LF is one line
line_size_whole : (w : Bytes) → every not_lf w ≡ true → line_size w ≡ length w
line_size_whole [] e = refl
line_size_whole (b ∷ w) e = rw (not-true (is_lf b) (and_left (not_lf b) _ e), line_size_whole w (and_right (not_lf b) _ e))

pub refused_line_whole : (w : Bytes) → every not_lf w ≡ true → refused_line w 1 ≡ w
refused_line_whole w free = rw (line_start-first w, line_size_whole w free, take-length w)

-- the first line of a text, and those after it
module _ (t : Bytes) where
  line_size-first : (w : Bytes) → every not_lf w ≡ true → line_size (w ++ (10 ∷ t)) ≡ length w
  line_size-first [] e = refl
  line_size-first (b ∷ w) e = rw (not-true (is_lf b) (and_left (not_lf b) _ e), line_size-first w (and_right (not_lf b) _ e))

  lines_size-first : (w : Bytes) (lines : ℕ) → every not_lf w ≡ true → lines_size (w ++ (10 ∷ t)) (suc lines) ≡ length w + suc (lines_size t lines)
  lines_size-first [] lines e = omega arith
  lines_size-first (b ∷ w) lines e =
      rw (not-true (is_lf b) (and_left (not_lf b) _ e), lines_size-first w lines (and_right (not_lf b) _ e)) (omega arith)

  module _ (w : Bytes) (free : every not_lf w ≡ true) where
    pub refused_line-first : refused_line (w ++ (10 ∷ t)) 1 ≡ w
    refused_line-first = rw (line_start-first (w ++ (10 ∷ t)), line_size-first w free, take-append_seam w (10 ∷ t))

    pub line_start-later : (k : ℕ) → line_start (w ++ (10 ∷ t)) (suc (suc k)) ≡ length w + suc (line_start t (suc k))
    line_start-later k = lines_size-first w k free

    pub refused_line-later : (k : ℕ) → refused_line (w ++ (10 ∷ t)) (suc (suc k)) ≡ refused_line t (suc k)
    refused_line-later k = rw (line_start-later k, drop-append-add w (10 ∷ t) (suc (line_start t (suc k))))

lines_size_rises : (s : Bytes) (k m : ℕ) → k < m → k < line_count s → lines_size s k < lines_size s m
lines_size_rises [] k m h l = absurd (omega arith)
lines_size_rises (b ∷ s) k zero h l = absurd (omega arith)
lines_size_rises (b ∷ s) zero (suc m) h l = omega arith
lines_size_rises (b ∷ s) (suc k) (suc m) h l = pick (is_lf b) l (λ i j. lines_size_rises s i j)
  where
    pick : (c : Bool) → suc k < cond c (suc (line_count s)) (max 1 (line_count s)) → ((i j : ℕ) → i < j → i < line_count s → lines_size s i < lines_size s j)
        → suc (lines_size s (cond c k (suc k))) < suc (lines_size s (cond c m (suc m)))
    pick true g ih = omega (arith, ih k m (omega arith) (omega arith))
    pick false g ih = omega (arith, ih (suc k) (suc m) (omega arith) (omega arith))

line_begun : (b : ℕ) (s : Bytes) → 0 < line_count (b ∷ s)
line_begun b s = pick (is_lf b)
  where
    pick : (c : Bool) → 0 < cond c (suc (line_count s)) (max 1 (line_count s))
    pick true = omega arith
    pick false = omega arith

lines_size_all : (s : Bytes) (lines : ℕ) → line_count s ≤ lines → lines_size s lines ≡ length s
lines_size_all [] lines h = refl
lines_size_all (b ∷ s) zero h = absurd (omega (arith, line_begun b s))
lines_size_all (b ∷ s) (suc lines) h = pick (is_lf b) h (λ k. lines_size_all s k)
  where
    pick : (c : Bool) → cond c (suc (line_count s)) (max 1 (line_count s)) ≤ suc lines → ((k : ℕ) → line_count s ≤ k → lines_size s k ≡ length s)
        → suc (lines_size s (cond c lines (suc lines))) ≡ suc (length s)
    pick true g ih = ap suc (ih lines (omega arith))
    pick false g ih = ap suc (ih (suc lines) (omega arith))

-- a line that there is begins before every later one, and before the end
module _ (s : Bytes) where
  pub line_start_rises : (k m : ℕ) → k < m → k < line_count s → line_start s (suc k) < line_start s (suc m)
  line_start_rises = lines_size_rises s

  pub line_start_present : (k : ℕ) → k < line_count s → line_start s (suc k) < length s
  line_start_present k h = omega (arith, lines_size_rises s k (line_count s) h h, lines_size_all s (line_count s) (omega arith))

-- line 0 and a line after the last are the empty part at the end
module _ (s : Bytes) where
  pub line_start_missing : (line : ℕ) → (0 < line → line_count s < line) → line_start s line ≡ length s
  line_start_missing zero h = refl
  line_start_missing (suc k) h = lines_size_all s k (omega (arith, h (omega arith)))

  pub refused_line_missing : (line : ℕ) → (0 < line → line_count s < line) → refused_line s line ≡ []
  refused_line_missing line h = rw (line_start_missing line h, drop-length s)
