-- How bytes put on a page one after another come to stand there, and that they find room.
use Rattle.std.proofs.Common.{◌≡◌, ℕ, ◌+◌, List, [], ◌++◌, length, sym, refl, ap, ◌∙◌, subst, add-zero, arith, length-append}
use Rattle.report.specs.declared.page.Page.{Page}
use Rattle.report.specs.Pages.{written, Room, Wrote}
use Rattle.report.proofs.Written.{written_none, written_more}

-- Two lots of bytes, one behind the other.
pub wrote_both : (p : Page) (xs ys : List ℕ) → Room p xs → (q r : Page) → Wrote p q xs → Wrote q r ys → Wrote p r (xs ++ ys)
wrote_both p xs ys room q r v w = record {
  stored = w.stored ∙ ap (λ k. written q.out.now k ys) v.moved ∙ ap (λ b. written b (p.at + length xs) ys) v.stored ∙ written_more p.out.now p.at xs ys room;
  moved = omega (arith, length-append xs ys, v.moved, w.moved);
  long = w.long ∙ v.long;
  same = w.same ∙ v.same;
}

-- a page with room for both
module _ (p : Page) (xs ys : List ℕ) (room : Room p (xs ++ ys)) where
  pub room_first : Room p xs
  room_first = omega (arith, length-append xs ys)

  pub room_rest : (q : Page) → Wrote p q xs → Room q ys
  room_rest q w = omega (arith, length-append xs ys, w.moved, w.long)

wrote_none : (p : Page) → Wrote p p []
wrote_none p = record { stored = written_none p.out.now p.at; moved = sym (add-zero p.at); long = refl; same = refl }

-- A text is half written: the rest finds room on the page as it stands, and writing it there
-- completes the whole on the page as it was.
pub record Half (before half : Page) (whole rest : List ℕ) : Type 0 where
  pub room : Room half rest
  pub ends : (after : Page) → Wrote half after rest → Wrote before after whole

pub half_start : (p : Page) (whole : List ℕ) → Room p whole → Half p p whole whole
half_start p whole room = record { room = room; ends = λ _ w. w }

pub half_end : {p q : Page} {whole : List ℕ} → Half p q whole [] → Wrote p q whole
half_end {p} {q} h = h.ends q (wrote_none q)

-- the next part of the text, and what is left behind it
module _ {p q : Page} {whole rest : List ℕ} (xs ys : List ℕ) (parts : rest ≡ xs ++ ys) (h : Half p q whole rest) where
  pub half_room : Room q xs
  half_room = room_first q xs ys (subst (Room q) parts h.room)

  pub half_more : (r : Page) → Wrote q r xs → Half p r whole ys
  half_more r v =
      let room = subst (Room q) parts h.room in
      record { room = room_rest q xs ys room r v; ends = λ s w. h.ends s (subst (Wrote q s) (sym parts) (wrote_both q xs ys half_room r s v w)) }
