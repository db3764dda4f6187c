-- The places of refusals fit 32 bits (specs/Claim, `PlacesFit`): entries are below 256, a bad step lies no deeper than its shape, and a bad
-- word is one of those that the buffer has room for.
--
-- In order: the calls' steps; entries; bad words; every call.
-- Not here: how deep a shape is (`Deep`).
-- Assumes nothing.
use Prim.Native.Nat.{ℕ, suc, ◌+◌, ◌^◌, ◌<◌, max}
use mathlib.Core.Bool.{Bool, true, false}
use mathlib.Core.List.{List, [], ◌∷◌, map}
use mathlib.Core.Option.{Option}
use mathlib.Core.Path.{◌≡◌, refl}
use native.Mathlib.Omega.{arith}
use borrow.Author.Tests.{ltb-false}
use lib.ListN.{length, get_elem?}
use Rattle.wgsl.specs.Types.{Ty}
use Rattle.wgsl.specs.Said.{Said, good, refused, ◌>>=◌, ◌>>◌, refuse, or_refuse}
use Rattle.wgsl.specs.Rule.{types_of}
use Rattle.wgsl.specs.Place.{extent_of, elements_in, shape_of, Place, word_places, places, check_words}
use Rattle.wgsl.specs.Path as path
use Rattle.wgsl.specs.Path.{Target, step_of, walk}
use Rattle.wgsl.specs.Call.{check_of, entry_of, size_call, align_call, min_size_call, layout_call, allowed, entry_for, elements_for, read_elements, read_type, read_call, write_words, write_elements, write_type, write_call, target_call, set_scalar, set_target, target_in, view_call, scalar_at, set_call, rank_call, entries_of, common_call}
use Rattle.wgsl.specs.Rank.{common_of_all}
use Rattle.wgsl.specs.BitFieldCall.{integer_of, integer_at, extract_call, insert_call}
use Rattle.wgsl.specs.Uniform.{may_live, uniform_call}
use Rattle.wgsl.specs.Form.{to_form2, to_form1, form_is, put_out, move_on_call, move_back_call}
use Rattle.wgsl.specs.Site.{block_entry, block_in, member_of, inheriting_call, fresh_call, member_call, copied_in, site_set_call, clear_call}
use Rattle.wgsl.specs.Clean.{clean_type, clean_call}
use Rattle.wgsl.specs.Order.{struct_members, plan_members, plan_call, order_call}
use Rattle.wgsl.specs.Claim.{PlaceFits, PlacesFit}
use Rattle.wgsl.proofs.LiteralCall.{convert_refuses}
use Rattle.wgsl.proofs.Said.{good_not_refused, then_cases, refuse_cases, or_refuse_good, or_refuse_refused}
use Rattle.wgsl.proofs.Accepted.{refused_place}
use Rattle.wgsl.proofs.ScalarWords.{scalar_length}
use Rattle.wgsl.proofs.Count.{words_few, places_words, words_room}
use Rattle.wgsl.proofs.EntryFor.{laid_good, stored_good, entry_sound}
use Rattle.wgsl.proofs.Deep.{enter_place, walk_place, entry_deep}
use Rattle.wgsl.proofs.Uniform.{Asked, named_low}
use Rattle.wgsl.proofs.Site.{asked}

-- ---- the calls' steps

module _ {A B : Type 0} where
  -- a step and the rest
  fits_then : (m : Said A) (rest : A → Said B) → PlaceFits m → ((a : A) → m ≡ good a → PlaceFits (rest a)) → PlaceFits (◌>>=◌ m rest)
  fits_then m rest h g number place e =
      then_cases m rest e (λ q. h number place q) (λ t. g t.value t.first number place t.after)

-- a test that refuses at a small place, and the rest
fits_refuse : {B : Type 0} (number place : ℕ) (test : Bool) (rest : Said B) → place < 2 ^ 32 → (test ≡ false → PlaceFits rest) → PlaceFits (◌>>◌ (refuse number place test) rest)
fits_refuse number place test rest small g n p e =
    refuse_cases number place test rest e (λ bad q. let same : p ≡ place = cc in rw same small) (λ ok q. g ok n p q)

fits_alone : (number place : ℕ) (test : Bool) → place < 2 ^ 32 → PlaceFits (refuse number place test)
unfolding refuse
fits_alone number place true small n p e = let same : p ≡ place = cc in rw same small
fits_alone number place false small n p e = good_not_refused refl e

fits_next : {B : Type 0} (m : Said (Unit {0})) (rest : Said B) → PlaceFits m → PlaceFits rest → PlaceFits (◌>>◌ m rest)
unfolding ◌>>◌
fits_next (good u) rest h g n p e = g n p e
fits_next (refused number place) rest h g n p e = let same : p ≡ place = cc in rw same (h number place refl)

fits_or : {A : Type 0} (number place : ℕ) (o : Option A) → place < 2 ^ 32 → PlaceFits (or_refuse number place o)
fits_or number place o small n p e = rw (or_refuse_refused number place o e).2 small

fits_good : {A : Type 0} (a : A) → PlaceFits (good a)
fits_good a n p e = good_not_refused refl e

-- ---- entries

fits_types : (f : List ℕ) → PlaceFits (types_of f)
fits_types f number place e = omega (arith, refused_place f e)

-- an entry's type, or 8
fits_entry : (f : List ℕ) (e : ℕ) → PlaceFits (entry_of f e)
unfolding entry_of
fits_entry f e = fits_then (types_of f) _ (fits_types f) (λ ts q. fits_or 8 0 (get_elem? ts e) (omega arith))

-- ---- bad words

-- The lowest bad word is one of those that have a place.
check_place : (k : ℕ) (ps : List Place) (ws : List ℕ) (number place : ℕ) → check_words k ps ws ≡ refused number place → place < k + length ps
unfolding check_words
check_place k [] ws number place e = good_not_refused refl e
check_place k (p ∷ ps) [] number place e = good_not_refused refl e
check_place k (p ∷ ps) (w ∷ ws) number place e =
    refuse_cases _ _ _ _ e (λ bad q. let at : place ≡ k = cc in omega arith)
    (λ ok q. omega (arith, check_place (suc k) ps ws number place q))

-- words tested, and then a value
fits_check : {B : Type 0} (ps : List Place) (ws : List ℕ) (b : B) → length ps < 2 ^ 32 → PlaceFits (◌>>◌ (check_words 0 ps ws) (good b))
unfolding ◌>>◌
fits_check ps ws b few number place e = go (check_words 0 ps ws) refl e
  where
    go : (m : Said (Unit {0})) → check_words 0 ps ws ≡ m → ◌>>◌ m (good b) ≡ refused number place → place < 2 ^ 32
    go (good u) is q = good_not_refused refl q
    go (refused n p) is q =
        let same : p ≡ place = cc in
        omega (arith, check_place 0 ps ws n p is)

-- ---- every call

fits_allowed : (stored : Bool) (t : Ty) (bytes : ℕ) → PlaceFits (allowed stored t bytes)
unfolding allowed
fits_allowed stored t bytes =
    fits_refuse _ _ _ _ (omega arith) (λ ok. fits_refuse _ _ _ _ (omega arith) (λ ok. fits_alone _ _ _ (omega arith)))

fits_for : (stored : Bool) (f : List ℕ) (e : ℕ) (b : List ℕ) → PlaceFits (entry_for stored f e b)
unfolding entry_for
fits_for stored f e b =
    fits_then (entry_of f e) _ (fits_entry f e) (λ t q. fits_next _ _ (fits_allowed stored t (length b)) (fits_good _))

fits_target : (f : List ℕ) (e : ℕ) (t : Ty) (steps b : List ℕ) → entry_of f e ≡ good t → PlaceFits (target_in t steps b)
unfolding target_in
fits_target f e t steps b h =
    let n = elements_in (length b) t in
    fits_refuse _ _ _ _ (omega arith) (λ ok number place q.
    omega (arith, walk_place 0 0 (shape_of n t) (map step_of steps) number place q, entry_deep f e t h n))

fits_path : (stored : Bool) (f : List ℕ) (e : ℕ) (steps b : List ℕ) → PlaceFits (target_call stored f e steps b)
unfolding target_call
fits_path stored f e steps b =
    fits_then (entry_for stored f e b) _ (fits_for stored f e b) (λ t q. fits_target f e t steps b (laid_good stored q).entry)

fits_read : (f : List ℕ) (e : ℕ) (b ws : List ℕ) → PlaceFits (read_call f e b ws)
unfolding read_call read_type read_elements
fits_read f e b ws =
    fits_then (entry_for true f e b) _ (fits_for true f e b) (λ t q.
    fits_refuse _ _ _ _ (omega arith) (λ ok. fits_refuse _ _ _ _ (omega arith) (λ ok. fits_good _)))

fits_write : (f : List ℕ) (e : ℕ) (ws b : List ℕ) → PlaceFits (write_call f e ws b)
unfolding write_call write_type write_elements write_words places
fits_write f e ws b =
    fits_then (entry_for true f e b) _ (fits_for true f e b) (λ t q.
    let s = stored_good q in
    let n = elements_for (length ws) t in
    let sound = entry_sound f e t s.entry s.layout n in
    fits_refuse _ _ _ _ (omega arith) (λ ok.
    fits_refuse _ _ _ _ (omega arith) (λ room.
    fits_check (places n t) ws _
    (omega (arith, places_words (shape_of n t) 0, words_room (shape_of n t) sound.0, sound.1, ltb-false (length b) (extent_of n t) room, s.within)))))

fits_set_target : (u : Target) (ws b : List ℕ) → PlaceFits (set_target u ws b)
unfolding set_target set_scalar
fits_set_target u ws b =
    fits_then (or_refuse 14 0 (scalar_at u.shape)) _ (fits_or _ _ _ (omega arith)) (λ s g.
    fits_refuse _ _ _ _ (omega arith) (λ ok. fits_check (word_places s u.offset) ws _ (omega (arith, scalar_length s u.offset, words_few s))))

fits_set : (f : List ℕ) (e : ℕ) (steps ws b : List ℕ) → PlaceFits (set_call f e steps ws b)
unfolding set_call
fits_set f e steps ws b =
    fits_then (target_call true f e steps b) _ (fits_path true f e steps b) (λ u h. fits_set_target u ws b)

fits_integer : (f : List ℕ) (e : ℕ) (steps b : List ℕ) → PlaceFits (integer_at f e steps b)
unfolding integer_at integer_of
fits_integer f e steps b =
    fits_then (target_call true f e steps b) _ (fits_path true f e steps b) (λ u h.
    fits_then (or_refuse 14 0 (scalar_at u.shape)) _ (fits_or _ _ _ (omega arith)) (λ s g.
    fits_refuse _ _ _ _ (omega arith) (λ ok. fits_good _)))

fits_entries : (ts : List Ty) (es : List ℕ) → PlaceFits (entries_of ts es)
unfolding entries_of
fits_entries ts [] = fits_good _
fits_entries ts (e ∷ es) =
    fits_then (or_refuse 8 0 (get_elem? ts e)) _ (fits_or _ _ _ (omega arith)) (λ t q.
    fits_then (entries_of ts es) _ (fits_entries ts es) (λ rest h. fits_good _))

fits_uniform : (f : List ℕ) (e : ℕ) → PlaceFits (uniform_call f e)
unfolding uniform_call may_live
fits_uniform f e =
    fits_then (types_of f) _ (fits_types f) (λ ts q.
    fits_then (or_refuse 8 0 (get_elem? ts e)) _ (fits_or _ _ _ (omega arith)) (λ t h.
    let at : Asked f ts e t = record { good_file = q; there = or_refuse_good 8 0 (get_elem? ts e) h } in
    fits_next _ _ (fits_refuse _ _ _ _ (omega arith) (λ ok. fits_alone _ _ _ (omega arith)))
    (fits_next _ _ (λ number place g. omega (arith, named_low at number place g)) (fits_good _))))

fits_form : (form : ℕ) (f : List ℕ) → PlaceFits (form_is form f)
unfolding form_is
fits_form form f =
    fits_refuse _ _ _ _ (omega arith) (λ ok.
    fits_refuse _ _ _ _ (omega arith) (λ is. fits_then (types_of f) _ (fits_types f) (λ ts q. fits_good _)))

fits_out : (new out : List ℕ) → PlaceFits (put_out new out)
unfolding put_out
fits_out new out = fits_refuse _ _ _ _ (omega arith) (λ ok. fits_good _)

-- site blocks
fits_block : (f : List ℕ) (e mask bytes : ℕ) → PlaceFits (block_entry f e mask bytes)
unfolding block_entry
fits_block f e mask bytes =
    fits_then (entry_of f e) _ (fits_entry f e) (λ t q.
    fits_next _ _ (fits_allowed true t bytes) (fits_refuse _ _ _ _ (omega arith) (λ ok. fits_good _)))

fits_enter : (t : Ty) (k : ℕ) → PlaceFits (member_of t k)
unfolding member_of
fits_enter t k number place e = omega (arith, (enter_place 0 (shape_of 0 t) (path.member k)).0 number place e)

fits_inheriting : (f : List ℕ) (e : ℕ) → PlaceFits (inheriting_call f e)
unfolding inheriting_call
fits_inheriting f e = fits_then (block_entry f e 0 0) _ (fits_block f e 0 0) (λ t q. fits_good _)

fits_clear : (f : List ℕ) (e k mask : ℕ) → PlaceFits (clear_call f e k mask)
unfolding clear_call
fits_clear f e k mask =
    fits_then (block_entry f e mask 0) _ (fits_block f e mask 0) (λ t q.
    fits_then (member_of t k) _ (fits_enter t k) (λ m h. fits_good _))

fits_both : (f : List ℕ) (e mask : ℕ) (factory site : List ℕ) → PlaceFits (block_in f e mask factory site)
unfolding block_in
fits_both f e mask factory site =
    let bytes = max (length factory) (length site) in
    fits_then (block_entry f e mask bytes) _ (fits_block f e mask bytes) (λ t q.
    fits_refuse _ _ _ _ (omega arith) (λ ok. fits_good _))

fits_fresh : (f : List ℕ) (e : ℕ) (factory site : List ℕ) → PlaceFits (fresh_call f e factory site)
unfolding fresh_call
fits_fresh f e factory site =
    fits_then (block_in f e 0 factory site) _ (fits_both f e 0 factory site) (λ t q. fits_good _)

fits_member : (f : List ℕ) (e k mask : ℕ) (factory site : List ℕ) → PlaceFits (member_call f e k mask factory site)
unfolding member_call
fits_member f e k mask factory site =
    fits_then (block_in f e mask factory site) _ (fits_both f e mask factory site) (λ t q. fits_enter t k)

fits_site_set : (f : List ℕ) (e k : ℕ) (steps ws : List ℕ) (mask : ℕ) (factory site : List ℕ) → PlaceFits (site_set_call f e k steps ws mask factory site)
unfolding site_set_call member_of
fits_site_set f e k steps ws mask factory site =
    fits_then (member_call f e k mask factory site) _ (fits_member f e k mask factory site) (λ m h.
    let a = asked h in
    fits_then (walk 0 m.offset m.shape (map step_of steps)) _ (λ number place q.
    let less = (enter_place 0 (shape_of 0 a.type) (path.member k)).1 m a.found in
    let few = entry_deep f e a.type a.block.entry 0 in
    omega (arith, walk_place 0 m.offset m.shape (map step_of steps) number place q))
    (λ u g. fits_then (set_target u ws (copied_in m mask k factory site)) _ (fits_set_target u ws _) (λ d q. fits_good _)))

-- cleaning
fits_clean : (f : List ℕ) (e : ℕ) (b : List ℕ) → PlaceFits (clean_call f e b)
unfolding clean_call clean_type
fits_clean f e b =
    fits_then (entry_for true f e b) _ (fits_for true f e b) (λ t q. fits_refuse _ _ _ _ (omega arith) (λ ok. fits_good _))

-- member orders
fits_members : (f : List ℕ) (e : ℕ) → PlaceFits (struct_members f e)
unfolding struct_members
fits_members f e = fits_then (entry_of f e) _ (fits_entry f e) (λ t q. fits_or _ _ _ (omega arith))

fits_plan : (f : List ℕ) (e : ℕ) (lent : List ℕ) → PlaceFits (plan_call f e lent)
unfolding plan_call plan_members
fits_plan f e lent =
    fits_then (struct_members f e) _ (fits_members f e) (λ ms q. fits_refuse _ _ _ _ (omega arith) (λ ok. fits_good _))

fits_order : (f : List ℕ) (e : ℕ) (order : List ℕ) → PlaceFits (order_call f e order)
unfolding order_call
fits_order f e order = fits_then (struct_members f e) _ (fits_members f e) (λ ms q. fits_or _ _ _ (omega arith))

-- a question about one entry
fits_asked : {A : Type 0} (f : List ℕ) (e : ℕ) (answer : Ty → Said A) → ((t : Ty) → PlaceFits (answer t)) → PlaceFits (◌>>=◌ (entry_of f e) answer)
fits_asked f e answer h = fits_then (entry_of f e) answer (fits_entry f e) (λ t q. h t)

-- The place of every refusal of every call has 32 bits.
pub places_fit : (f : List ℕ) → PlacesFit f
unfolding check_of size_call align_call min_size_call layout_call view_call extract_call insert_call rank_call common_call move_on_call move_back_call
places_fit f =
    let zero_fits : 0 < 2 ^ 32 = omega arith in
    record {
      check = fits_then (types_of f) _ (fits_types f) (λ ts q. fits_good _);
      size = λ e. fits_asked f e _ (λ t. fits_or _ _ _ zero_fits);
      align = λ e. fits_asked f e _ (λ t. fits_or _ _ _ zero_fits);
      minimum_size = λ e. fits_asked f e _ (λ t. fits_or _ _ _ zero_fits);
      layout = λ e. fits_asked f e _ (λ t. fits_good _);
      read = fits_read f;
      write = fits_write f;
      view = λ e steps b. fits_path false f e steps b;
      set = fits_set f;
      extract = λ e steps b offset count.
          fits_then (integer_at f e steps b) _ (fits_integer f e steps b) (λ x q. fits_good _);
      insert = λ e steps new offset count b.
          fits_then (integer_at f e steps b) _ (fits_integer f e steps b) (λ x q. fits_good _);
      uniform = fits_uniform f;
      rank = λ x y. fits_asked f x _ (λ s. fits_asked f y _ (λ t. fits_or _ _ _ zero_fits));
      common = λ es.
          fits_then (types_of f) _ (fits_types f) (λ ts q.
          fits_then (entries_of ts es) _ (fits_entries ts es) (λ entries h.
          fits_then (or_refuse 18 0 (common_of_all entries)) _ (fits_or _ _ _ zero_fits) (λ c g. fits_good _)));
      to_form_2 = λ out. fits_next (form_is 1 f) _ (fits_form 1 f) (fits_out (to_form2 f) out);
      to_form_1 = λ out. fits_next (form_is 2 f) _ (fits_form 2 f) (fits_refuse _ _ _ _ zero_fits (λ ok. fits_out (to_form1 f) out));
      site_inheriting = fits_inheriting f;
      site_fresh = fits_fresh f;
      site_clear = fits_clear f;
      site_member = fits_member f;
      site_set = fits_site_set f;
      clean = fits_clean f;
      plan_order = fits_plan f;
      check_order = fits_order f;
      convert = λ a b c number place e. omega (arith, (convert_refuses a b c e).1);
    }
