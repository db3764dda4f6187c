-- The two moves between the forms (specs/Form): when they are good, what they leave, and that one undoes the other.
--
-- In order: files of a form; names; the file in the other form; when a move is good; there and back; an old reader.
-- Assumes nothing.
use Prim.Native.Nat.{ℕ, zero, suc, ◌+◌, ◌*◌, ◌<◌, ◌≤◌}
use mathlib.Core.List.{List, [], ◌++◌}
use mathlib.Core.Bool.{Bool, true, false, not}
use mathlib.Core.Path.{◌≡◌, refl, ap, sym, ◌∙◌}
use native.Mathlib.Omega.{arith}
use borrow.Author.Tests.{ltb-false, eqb-true, eqb-false, eq-eqb, le-ltb, not-false}
use lib.Dec.{eqb}
use lib.ListN.{length, get_or, take, drop}
use lib.Seq.{take-append_seam, length-take-le}
use Rattle.wgsl.specs.Number.{load, bytes_of}
use Rattle.wgsl.specs.Said.{Said, good, refused, refuse, ◌>>◌, ◌>>=◌}
use Rattle.wgsl.specs.File.{Trailer, trailer_of, length_by, member_entry_length, check_trailer}
use Rattle.wgsl.specs.Rule.{types_of}
use Rattle.wgsl.specs.Call.{Done}
use Rattle.wgsl.specs.Form.{member_place, name_at, nameless, no_name, entries_with, trailer_as, moved_to, to_form2, to_form1, form_is, filled, put_out, move_on_call, move_back_call, old_trailer}
use Rattle.wgsl.specs.Claim.{GoodIf, OfForm, CanMoveOn, CanMoveBack, SameAnswers}
use Rattle.wgsl.proofs.Absent.{both_hold, hold_both}
use Rattle.wgsl.proofs.Said.{then_good, next_good, next_is, refuse_good, refuse_no, refuse_yes}
use Rattle.wgsl.proofs.Number.{bytes_load}
use Rattle.wgsl.proofs.Trailed.{Trailed, trailed}
use Rattle.wgsl.proofs.Accepted.{accepted}
use Rattle.wgsl.proofs.Moved.{entry_inside, start_inside, trailer_moved, moved_trailed, moved_same, moved_types, moved_name}
use Rattle.wgsl.proofs.Back.{there_and_back}
use Rattle.wgsl.proofs.SameAnswers.{same_answers}

-- ---- files of a form

pub trailed_of : {form : ℕ} {f : List ℕ} → OfForm form f → Trailed f (trailer_of f)
trailed_of {f = f} o = (accepted f o.types o.accepted).trailer_good

pub form_good : {form : ℕ} {f : List ℕ} → OfForm form f → form_is form f ≡ good tt
unfolding form_is refuse ◌>>◌ ◌>>=◌
form_good {form} {f} o = rw (le-ltb (length f) 10 (trailed_of o).bytes, eq-eqb (trailer_of f).form form o.is_form, o.accepted) refl

pub form_only : (form : ℕ) (f : List ℕ) → form_is form f ≡ good tt → OfForm form f
unfolding form_is
form_only form f h =
    let one = refuse_good 1 0 _ _ h in
    let two = refuse_good 2 0 _ _ one.1 in
    let x = then_good (types_of f) _ two.1 in
    record { is_form = eqb-true (trailer_of f).form form (not-false (eqb (trailer_of f).form form) two.0); types = x.value; accepted = x.first }

-- ---- names

below_suc : (P : ℕ → Type 0) (m n : ℕ) → m < suc n → P n → (m < n → P m) → P m
below_suc P m n l last lower = go (eqb m n) refl
  where
    go : (b : Bool) → eqb m n ≡ b → P m
    go true e = rw (eqb-true m n e) last
    go false e = lower (omega (arith, l, eqb-false m n e))

names_none : (f : List ℕ) (n : ℕ) → nameless f n ≡ true → (m : ℕ) → m < n → name_at f m ≡ 0
unfolding nameless
names_none f zero h m l = absurd (omega arith)
names_none f (suc n) h m l =
    let b = both_hold (nameless f n) (eqb (name_at f n) 0) h in
    below_suc (λ i. name_at f i ≡ 0) m n l (eqb-true (name_at f n) 0 b.1) (names_none f n b.0 m)

none_names : (f : List ℕ) (n : ℕ) → ((m : ℕ) → m < n → name_at f m ≡ 0) → nameless f n ≡ true
unfolding nameless
none_names f zero h = refl
none_names f (suc n) h =
    hold_both (nameless f n) (eqb (name_at f n) 0) (none_names f n (λ m l. h m (omega arith))) (eq-eqb (name_at f n) 0 (h n (omega arith)))

-- ---- the file in another form

-- a form, and what stands for a name in it
record Form (form : ℕ) (name : List ℕ) : Type 0 where
  low : 1 ≤ form
  high : form ≤ 2
  wide : 12 + length name ≡ member_entry_length form

form_1 : Form 1 []
unfolding member_entry_length
form_1 = record { low = omega arith; high = omega arith; wide = refl }

form_2 : Form 2 no_name
unfolding member_entry_length
form_2 = record { low = omega arith; high = omega arith; wide = refl }

module _ {from form : ℕ} {name f : List ℕ} (o : OfForm from f) (x : Form form name) where
  t : Trailed f (trailer_of f)
  t = trailed_of o

  -- it has that form, and its types are those that it had
  moved_form : OfForm form (moved_to form name f)
  moved_form = record {
    is_form = rw (trailer_moved t form name x.low x.high x.wide) refl;
    types = o.types;
    accepted = moved_types t form name x.low x.high x.wide ∙ o.accepted;
  }

-- It answers as the given one, which may be refused by 5 to 7 or 24.
moved_answers : {form : ℕ} {name f : List ℕ} → Trailed f (trailer_of f) → Form form name → SameAnswers f (moved_to form name f)
moved_answers {form} {name} t x =
    same_answers (moved_same t form name x.low x.high x.wide)
    (sym (moved_types t form name x.low x.high x.wide))

-- Names are ignored: a file gets the answers of the form 1 file without them.
pub names_ignored : (f : List ℕ) (r : Trailer) → check_trailer f ≡ good r → SameAnswers f (to_form1 f)
unfolding to_form1
names_ignored f r e = let t = trailed f r e in moved_answers (rw t.is at t) form_1

moved_on : {f : List ℕ} → OfForm 1 f → OfForm 2 (to_form2 f)
unfolding to_form2
moved_on o = moved_form o form_2

moved_back : {f : List ℕ} → OfForm 2 f → OfForm 1 (to_form1 f)
unfolding to_form1
moved_back o = moved_form o form_1

-- "its length is S + 12 x T + 16 x M + 10"
pub on_length : {f : List ℕ} → OfForm 1 f → length (to_form2 f) ≡ (trailer_of f).start + 12 * (trailer_of f).types + 16 * (trailer_of f).members + 10
unfolding to_form2 length_by member_entry_length
on_length {f} o =
    let x = form_2 in
    omega (arith, (moved_trailed (trailed_of o) 2 no_name x.low x.high x.wide).long)

-- "keeps the bytes before S", and the type entries
pub on_keeps : {f : List ℕ} → OfForm 1 f → take (member_place f 0) (to_form2 f) ≡ take (member_place f 0) f
unfolding to_form2 moved_to
on_keeps {f} o =
    let front = take (member_place f 0) f in
    let long = length-take-le (member_place f 0) f (omega (arith, start_inside (trailed_of o))) in
    rw long at (take-append_seam front (entries_with f no_name (trailer_of f).members 0 ++ trailer_as 2 f))

-- no name is set
pub on_nameless : {f : List ℕ} (o : OfForm 1 f) (m : ℕ) → m < (trailer_of (to_form2 f)).members → name_at (to_form2 f) m ≡ 0
unfolding to_form2 name_at load
on_nameless {f} o m h =
    let t = trailed_of o in
    let x = form_2 in
    let inside : m < (trailer_of f).members = rw (trailer_moved t 2 no_name x.low x.high x.wide) at h in
    moved_name t 2 no_name x.low x.high x.wide m inside

-- ---- there and back

module _ {f : List ℕ} (bytes : (i : ℕ) → get_or f i 0 < 256) where
  pub on_and_back : OfForm 1 f → to_form1 (to_form2 f) ≡ f
  unfolding to_form1 to_form2
  on_and_back o =
      let x = form_2 in
      let y = form_1 in
      rw o.is_form at (there_and_back (trailed_of o) 2 no_name x.low x.high x.wide [] (rw o.is_form y.wide) (λ m h. refl) bytes)

  pub back_and_on : OfForm 2 f → ((m : ℕ) → m < (trailer_of f).members → name_at f m ≡ 0) → to_form2 (to_form1 f) ≡ f
  unfolding to_form1 to_form2 name_at bytes_of
  back_and_on o none =
      let x = form_1 in
      let y = form_2 in
      let long : member_entry_length (trailer_of f).form ≡ 16 = rw o.is_form (sym y.wide) in
      rw o.is_form at (there_and_back (trailed_of o) 1 [] x.low x.high x.wide no_name (rw o.is_form y.wide) (λ m h.
      sym (bytes_load 4 f (member_place f m + 12) (omega (arith, entry_inside (trailed_of o) m h, long)) bytes) ∙ ap (bytes_of 4) (none m h)) bytes)

-- ---- when a move is good, and what it leaves

pub room_good : (new out : List ℕ) → length new ≤ length out → put_out new out ≡ good (filled new out)
unfolding put_out
room_good new out h = refuse_no 15 0 (le-ltb (length out) (length new) h)

room_only : (new out : List ℕ) {d : Done} → put_out new out ≡ good d → (length new ≤ length out) × (d ≡ filled new out)
unfolding put_out
room_only new out h =
    let x = refuse_good 15 0 _ _ h in
    (ltb-false (length out) (length new) x.0, cc x.1)

pub move_on_leaves : {f out : List ℕ} → CanMoveOn f out → move_on_call f out ≡ good (filled (to_form2 f) out)
unfolding move_on_call
move_on_leaves {f} {out} c = next_is _ (form_good c.file) ∙ room_good (to_form2 f) out c.room

pub move_on_good_if : (f out : List ℕ) → GoodIf (move_on_call f out) (CanMoveOn f out)
unfolding move_on_call
move_on_good_if f out = record {
  if_so = λ c. (filled (to_form2 f) out, move_on_leaves c);
  only_if = λ d h.
      let x = next_good (form_is 1 f) _ h in
      record { file = form_only 1 f x.0; room = (room_only (to_form2 f) out x.1).0 };
}

pub move_back_leaves : {f out : List ℕ} → CanMoveBack f out → move_back_call f out ≡ good (filled (to_form1 f) out)
unfolding move_back_call
move_back_leaves {f} {out} c =
    next_is _ (form_good c.file)
    ∙ refuse_no 20 0 (ap not (none_names f (trailer_of f).members c.no_names))
    ∙ room_good (to_form1 f) out c.room

pub move_back_good_if : (f out : List ℕ) → GoodIf (move_back_call f out) (CanMoveBack f out)
unfolding move_back_call
move_back_good_if f out = record {
  if_so = λ c. (filled (to_form1 f) out, move_back_leaves c);
  only_if = λ d h.
      let x = next_good (form_is 2 f) _ h in
      let y = refuse_good 20 0 _ _ x.1 in
      let n = nameless f (trailer_of f).members in
      record {
        file = form_only 2 f x.0;
        no_names = names_none f (trailer_of f).members (not-false n y.0);
        room = (room_only (to_form1 f) out y.1).0;
      };
}

-- The bytes answered are the file in the other form.
left_bytes : {said : Said Done} {d : Done} (new out : List ℕ) → said ≡ good (filled new out) → said ≡ good d → take d.value d.contents ≡ new
unfolding filled
left_bytes {said} {d} new out leaves is =
    let same : d ≡ filled new out = cc (leaves, is) in
    rw same (take-append_seam new (drop (length new) out))

module _ (f out : List ℕ) (d : Done) (moved : move_on_call f out ≡ good d) where
  can_on : CanMoveOn f out
  can_on = (move_on_good_if f out).only_if d moved

  pub on_bytes : take d.value d.contents ≡ to_form2 f
  on_bytes = left_bytes (to_form2 f) out (move_on_leaves can_on) moved

  -- The file moved on gets the answers of the given one,
  pub on_same : SameAnswers f (take d.value d.contents)
  unfolding to_form2
  on_same = rw on_bytes (moved_answers (trailed_of can_on.file) form_2)

  -- and moved back it is the given one.
  pub on_then_back : (out' : List ℕ) → ((i : ℕ) → get_or f i 0 < 256) → length f ≤ length out' → move_back_call (take d.value d.contents) out' ≡ good (filled f out')
  on_then_back out' bytes room =
      let back = on_and_back bytes can_on.file in
      rw on_bytes (move_back_leaves (record { file = moved_on can_on.file; no_names = on_nameless can_on.file; room = rw back room })
      ∙ ap (λ (g : List ℕ). good (filled g out')) back)

module _ (f out : List ℕ) (d : Done) (moved : move_back_call f out ≡ good d) where
  can_back : CanMoveBack f out
  can_back = (move_back_good_if f out).only_if d moved

  pub back_bytes : take d.value d.contents ≡ to_form1 f
  back_bytes = left_bytes (to_form1 f) out (move_back_leaves can_back) moved

  pub back_same : SameAnswers f (take d.value d.contents)
  unfolding to_form1
  back_same = rw back_bytes (moved_answers (trailed_of can_back.file) form_1)

  pub back_then_on : (out' : List ℕ) → ((i : ℕ) → get_or f i 0 < 256) → length f ≤ length out' → move_on_call (take d.value d.contents) out' ≡ good (filled f out')
  back_then_on out' bytes room =
      let on = back_and_on bytes can_back.file can_back.no_names in
      rw back_bytes (move_on_leaves (record { file = moved_back can_back.file; room = rw on room })
      ∙ ap (λ (g : List ℕ). good (filled g out')) on)

-- ---- an old reader

pub old_reader : {f : List ℕ} → OfForm 2 f → old_trailer f ≡ refused 2 0
unfolding old_trailer
old_reader {f} o =
    refuse_no 1 0 (le-ltb (length f) 10 (trailed_of o).bytes)
    ∙ refuse_yes _ (rw o.is_form refl)
