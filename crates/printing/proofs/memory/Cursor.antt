-- Printing with a cursor: texts one after the other, and what the cursor tells at the end of a whole text.
-- Assumes nothing.
use Prim.Native.Nat.{ℕ, suc, ◌+◌, ◌≤◌, ◌<◌}
use native.Mathlib.Nat.{zero-add}
use native.Mathlib.Numerals.{add-one}
use native.Mathlib.Omega.{arith}
use mathlib.Core.Path.{◌≡◌, refl, sym, ap, ap₂, subst, ◌∙◌}
use mathlib.Core.List.{List, [], ◌∷◌, ◌++◌, append-nil}
use mathlib.Core.Bool.{Bool, true, false, cond, ◌&&◌}
use borrow.Author.Tests.{ne_eqb, eqb-true, ltb-true, ltb-false}
use denote.Bor.{Bor}
use lib.Dec.{eqb, eqb-suc-suc, ltb}
use lib.ListN.{length, get_or, drop, set, drop_of_length-le}
use lib.Seq.{sets, drop-cons, drop-drop}
use Rattle.std.specs.Prelude.{Option, None, Some}
use Rattle.std.specs.Option.{is_some, IfSome, option_eq, option_copied}
use Rattle.grammar.specs.Bytes.{Bytes, same, followed}
use Rattle.grammar.specs.Lines.{is_lf}
use Rattle.printing.specs.declared.cursor.Cursor.{Cursor}
use Rattle.printing.specs.declared.cursor.Printer.{Printer}
use Rattle.printing.specs.memory.Cursor.{countless, counted, first_is, agrees_after, line_after, cursor_after, first_cursor, Print, emitted, printed, Prints, Writes}

-- One byte.

-- whether the byte at a place, which may lie past the end, is `b`
pub first_here : (text : Bytes) (at b : ℕ) (here : Option (Bor ℕ)) → is_some here ≡ ltb at (length text) → IfSome here (λ x. x.now ≡ get_or text at x.now)
    → option_eq eqb (option_copied here) (Some b) ≡ first_is (drop at text) b
first_here text at b None e h = let beyond = ltb-false at (length text) (sym e) in rw (drop_of_length-le text beyond)
first_here text at b (Some x) e h =
    let within = ltb-true at (length text) (sym e) in
    rw (drop-cons text at x.now within, ← h)

pub agrees_before : (claim : Bytes) (cursor : Cursor) (b : ℕ) → cursor.same ≡ false → agrees_after claim cursor b ≡ false
unfolding agrees_after
agrees_before claim cursor b e = rw e

pub agrees_here : (claim : Bytes) (cursor : Cursor) (b : ℕ) (here : Bool) → cursor.same ≡ true → first_is (drop cursor.length claim) b ≡ here
    → agrees_after claim cursor b ≡ here
unfolding agrees_after
agrees_here claim cursor b here e h = ap₂ ◌&&◌ e h

-- Texts.

module _ (claim : Bytes) (store : Bool) where
  printed-append : (p : Print) (s t : Bytes) → printed claim store p (s ++ t) ≡ printed claim store (printed claim store p s) t
  unfolding printed
  printed-append p [] t = refl
  printed-append p (b ∷ s) t = printed-append (emitted claim store p b) s t

-- A printer goes on.

pub writes_one : {p q : Printer} {b : ℕ} → q.claim.now ≡ p.claim.now → q.store ≡ p.store → q.out.ghost_name ≡ p.out.ghost_name
    → q.cursor ≡ cursor_after p.claim.now p.cursor b → q.out.now ≡ cond p.store (set p.out.now p.cursor.length b) p.out.now → Writes p (b ∷ []) q
unfolding printed emitted
writes_one e f r g h = record { claim = e; store = f; out = r; prints = record { is = ap₂ (λ (x : Cursor) (y : List ℕ). (x, y)) g h } }

-- the same text in other words
pub writes_as : {p q : Printer} {s w : Bytes} → w ≡ s → Writes p s q → Writes p w q
writes_as {p} {q} e f = subst (λ (t : Bytes). Writes p t q) (sym e) f

pub writes_nothing : {p : Printer} {w : Bytes} → w ≡ [] → Writes p w p
unfolding printed
writes_nothing e = record { claim = refl; store = refl; out = refl; prints = record { is = rw e } }

-- Of a whole text from p on, a rest is still to be printed from q on.
pub record Remains (p : Printer) (whole : Bytes) (q : Printer) (rest : Bytes) : Type 0 where
  pub claim : q.claim.now ≡ p.claim.now
  pub store : q.store ≡ p.store
  pub out : q.out.ghost_name ≡ p.out.ghost_name
  pub is : printed p.claim.now p.store (p.cursor, p.out.now) whole ≡ printed p.claim.now p.store (q.cursor, q.out.now) rest

pub remains_all : {p : Printer} {whole : Bytes} → Remains p whole p whole
remains_all = record { claim = refl; store = refl; out = refl; is = refl }

module _ {p q : Printer} {whole rest : Bytes} (so : Remains p whole q rest) where
  pub remains_nothing : rest ≡ [] → Writes p whole q
  unfolding printed
  remains_nothing e = record {
    claim = so.claim;
    store = so.store;
    out = so.out;
    prints = record { is = sym (so.is ∙ ap (printed p.claim.now p.store (q.cursor, q.out.now)) e) };
  }

  pub remains_then : {r : Printer} {s t : Bytes} → rest ≡ s ++ t → Writes q s r → Remains p whole r t
  remains_then {r} {s} {t} e f =
      let moved : (r.cursor, r.out.now) ≡ printed p.claim.now p.store (q.cursor, q.out.now) s = rw (← so.claim, ← so.store) f.prints.is in
      record {
        claim = f.claim ∙ so.claim;
        store = f.store ∙ so.store;
        out = f.out ∙ so.out;
        is =
            so.is ∙ ap (printed p.claim.now p.store (q.cursor, q.out.now)) e ∙ printed-append p.claim.now p.store (q.cursor, q.out.now) s t
            ∙ ap (λ (x : Print). printed p.claim.now p.store x t) (sym moved);
      }

-- one text after another
pub writes_then : {p q r : Printer} {s t : Bytes} → Writes p s q → Writes q t r → Writes p (s ++ t) r
writes_then {p} {q} {r} {s} {t} e f = remains_nothing (remains_then (remains_then (remains_all {whole = s ++ t}) refl e) (sym (append-nil t)) f) refl

-- the output as it is handed back
pub writes_whole : {p q : Printer} {text out : Bytes} → out ≡ q.out.now → Writes p text q → Prints p.claim.now p.store (p.cursor, p.out.now) text (q.cursor, out)
writes_whole e f = rw e f.prints

-- the bytes of a slice from a place on
pub from_byte : (s : Bytes) (i : ℕ) → i < length s → drop i s ≡ (get_or s i 0 ∷ []) ++ drop (i + 1) s
from_byte s i h = rw (add-one i) (drop-cons s i 0 h)

-- Texts with commas between them: one more, and no more.
module _ {p q : Printer} {whole : Bytes} {vs : List Bytes} (so : Remains p whole q (followed 44 vs)) where
  pub remains_next : {o r : Printer} {w : Bytes} {ws : List Bytes} → vs ≡ w ∷ ws → Writes q (44 ∷ []) o → Writes o w r → Remains p whole r (followed 44 ws)
  remains_next e f g = remains_then so (ap (followed 44) e) (writes_then f g)

  pub remains_last : vs ≡ [] → Writes p whole q
  remains_last e = remains_nothing so (ap (followed 44) e)

-- Whole texts: what the cursor tells behind them, and what is stored.

fits_more : (n k : ℕ) → n + suc k ≤ countless → counted n ≡ suc n
fits_more n k h = omega arith

module _ (claim : Bytes) where
  printed-length : (store : Bool) (p : Print) (w : Bytes) → p.0.length + length w ≤ countless → (printed claim store p w).0.length ≡ p.0.length + length w
  unfolding printed emitted cursor_after
  printed-length store p [] h = omega arith
  printed-length store p (b ∷ w) h =
      let e = fits_more p.0.length (length w) h in
      printed-length store (emitted claim store p b) w (omega arith) ∙ omega arith

  -- nothing is stored if not asked
  printed-kept : (p : Print) (w : Bytes) → (printed claim false p w).1 ≡ p.1
  unfolding printed emitted
  printed-kept p [] = refl
  printed-kept p (b ∷ w) = printed-kept (emitted claim false p b) w

  printed-stored : (p : Print) (w : Bytes) → p.0.length + length w ≤ countless → (printed claim true p w).1 ≡ sets p.1 p.0.length w
  unfolding printed emitted cursor_after
  printed-stored p [] h = refl
  printed-stored p (b ∷ w) h =
      let e = fits_more p.0.length (length w) h in
      printed-stored (emitted claim true p b) w (omega arith) ∙ rw e

pub prints_length : {claim : Bytes} {store : Bool} {p q : Print} {w : Bytes} → Prints claim store p w q → p.0.length + length w ≤ countless
    → q.0.length ≡ p.0.length + length w
prints_length {claim} {store} {p} {q} {w} so h = ap (λ (r : Print). r.0.length) so.is ∙ printed-length claim store p w h

pub prints_kept : {claim : Bytes} {p q : Print} {w : Bytes} → Prints claim false p w q → q.1 ≡ p.1
prints_kept {claim} {p} {q} {w} so = ap (λ (r : Print). r.1) so.is ∙ printed-kept claim p w

pub prints_stored : {claim : Bytes} {p q : Print} {w : Bytes} → Prints claim true p w q → p.0.length + length w ≤ countless
    → q.1 ≡ sets p.1 p.0.length w
prints_stored {claim} {p} {q} {w} so h = ap (λ (r : Print). r.1) so.is ∙ printed-stored claim p w h

feed_atmost : (b : Bool) → cond b 1 0 ≤ 1
feed_atmost true = omega arith
feed_atmost false = omega arith

-- behind the first difference
module _ (claim : Bytes) (store : Bool) where
  differed_emitted : (p : Print) (b : ℕ) → agrees_after claim p.0 b ≡ false
      → ((emitted claim store p b).0.same ≡ false) × ((emitted claim store p b).0.line ≡ p.0.line)
  unfolding emitted cursor_after line_after
  differed_emitted p b e = (e, rw e)

  differed_printed : (p : Print) (w : Bytes) → p.0.same ≡ false
      → ((printed claim store p w).0.same ≡ false) × ((printed claim store p w).0.line ≡ p.0.line)
  unfolding printed
  differed_printed p [] e = (e, refl)
  differed_printed p (b ∷ w) e =
      let (other, line) = differed_emitted p b (agrees_before claim p.0 b e) in
      let (last, end) = differed_printed (emitted claim store p b) w other in
      (last, end ∙ line)

  same-emitted : (p : Print) (b : ℕ) → agrees_after claim p.0 b ≡ true → p.0.line < countless
      → ((emitted claim store p b).0.same ≡ true) × ((emitted claim store p b).0.line ≡ p.0.line + cond (is_lf b) 1 0)
  unfolding emitted cursor_after line_after
  same-emitted p b e h = (e, rw e (pick (is_lf b)))
    where
      pick : (feed : Bool) → cond feed (counted p.0.line) p.0.line ≡ p.0.line + cond feed 1 0
      pick true = omega arith
      pick false = omega arith

  length-emitted : (p : Print) (b : ℕ) → (emitted claim store p b).0.length ≡ counted p.0.length
  unfolding emitted cursor_after
  length-emitted p b = refl

-- The line of the first difference is any function of claim and text that goes by these clauses.
module _
    (claim : Bytes)
    (store : Bool)
    (difference_line : Bytes → Bytes → ℕ)
    (ended : (t : Bytes) → difference_line [] t ≡ 1)
    (short : (a : ℕ) (s : Bytes) → difference_line (a ∷ s) [] ≡ 1)
    (onward : (a : ℕ) (s : Bytes) (b : ℕ) (t : Bytes) → difference_line (a ∷ s) (b ∷ t) ≡ cond (eqb a b) (cond (is_lf a) 1 0 + difference_line s t) 1)
  where
    -- as long as all is the same, `rest` of the claim stands against the text to come
    record Compared (rest w : Bytes) (p q : Print) : Type 0 where
      alike : (q.0.same && eqb (length w) (length rest)) ≡ same rest w
      line : q.0.line + 1 ≡ p.0.line + difference_line rest w

    compared : (w rest : Bytes) (p : Print) → drop p.0.length claim ≡ rest → p.0.same ≡ true
        → p.0.length + length w ≤ countless → p.0.line + length w ≤ countless → Compared rest w p (printed claim store p w)
    unfolding printed
    compared [] [] p e h n l = record { alike = rw h; line = rw (ended []) }
    compared [] (a ∷ s) p e h n l = record { alike = rw (h, ne_eqb 0 (length (a ∷ s)) (λ z. omega arith)); line = rw (short a s) }
    compared (b ∷ w) [] p e h n l =
        let (other, line) = differed_emitted claim store p b (agrees_here claim p.0 b false h (ap (λ (s : Bytes). first_is s b) e)) in
        let (last, end) = differed_printed claim store (emitted claim store p b) w other in
        record { alike = rw last; line = rw (ended (b ∷ w), end, line) }
    compared (b ∷ w) (a ∷ s) p e h n l = pick (eqb a b) refl (λ q d f g k. compared w s q d f g k)
      where
        pick : (t : Bool) → eqb a b ≡ t
            → ((q : Print) → drop q.0.length claim ≡ s → q.0.same ≡ true → q.0.length + length w ≤ countless → q.0.line + length w ≤ countless
            → Compared s w q (printed claim store q w))
            → Compared (a ∷ s) (b ∷ w) p (printed claim store p (b ∷ w))
        pick true t ih =
            let (on, line) = same-emitted claim store p b (agrees_here claim p.0 b true h (ap (λ (s : Bytes). first_is s b) e ∙ t)) (omega arith) in
            let place : counted p.0.length ≡ p.0.length + 1 = omega arith in
            let behind : drop (emitted claim store p b).0.length claim ≡ s =
            rw (length-emitted claim store p b, place) (sym (drop-drop 1 p.0.length claim) ∙ ap (drop 1) e) in
            let bound : (emitted claim store p b).0.length + length w ≤ countless = rw (length-emitted claim store p b) (omega arith) in
            let feed = feed_atmost (is_lf b) in
            let r = ih (emitted claim store p b) behind on bound (omega arith) in
            record {
              alike = rw (t, eqb-suc-suc (length w) (length s)) r.alike;
              line = rw (onward a s b w, t, eqb-true a b t) (omega (arith, r.line, line));
            }
        pick false t ih =
            let (other, line) = differed_emitted claim store p b (agrees_here claim p.0 b false h (ap (λ (s : Bytes). first_is s b) e ∙ t)) in
            let (last, end) = differed_printed claim store (emitted claim store p b) w other in
            record { alike = rw (last, t); line = rw (onward a s b w, t, end, line) }

    -- a whole text against the claim
    module _ {out : List ℕ} {w : Bytes} {q : Print} (so : Prints claim store (first_cursor, out) w q) (fits : length w < countless) where
      whole : Compared claim w (first_cursor, out) q
      whole = subst (Compared claim w (first_cursor, out)) (sym so.is) (compared w claim (first_cursor, out) refl refl (omega arith) (omega arith))

      pub prints_line : q.0.line ≡ difference_line claim w
      prints_line = omega (arith, whole.line)

      pub prints_same : (q.0.same && eqb q.0.length (length claim)) ≡ same claim w
      prints_same = rw (prints_length so (omega arith), zero-add) whole.alike
