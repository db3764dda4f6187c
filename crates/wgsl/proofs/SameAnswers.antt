-- Two files with the same entries get the same answer from every call (specs/Claim, `SameAnswers`).
--
-- In order: what an entry refers to; the uniform call; all calls.
-- Assumes nothing.
use Prim.Native.Nat.{ℕ, zero, suc, ◌+◌, ◌<◌, ◌≤◌, max}
use mathlib.Core.List.{List}
use mathlib.Core.Bool.{Bool, true, false}
use mathlib.Core.Option.{Option, some, none}
use mathlib.Core.Path.{◌≡◌, refl, ap, sym, ◌∙◌}
use native.Mathlib.Omega.{arith}
use lib.ListN.{length, get_elem?}
use Rattle.wgsl.specs.Types.{Ty}
use Rattle.wgsl.specs.Said.{Said, good, refused, ◌>>=◌, or_refuse}
use Rattle.wgsl.specs.File.{TypeEntry, trailer_of, type_entry_at}
use Rattle.wgsl.specs.Rule.{types_of}
use Rattle.wgsl.specs.Call.{check_of, entry_of, entry_for, size_call, align_call, min_size_call, layout_call, read_call, write_call, target_call, view_call, set_call, rank_call, common_call}
use Rattle.wgsl.specs.BitFieldCall.{integer_at, extract_call, insert_call}
use Rattle.wgsl.specs.Uniform.{member_types, refers_to, uniform_call}
use Rattle.wgsl.specs.Site.{block_entry, block_in, inheriting_call, fresh_call, member_call, site_set_call, clear_call}
use Rattle.wgsl.specs.Clean.{clean_call}
use Rattle.wgsl.specs.Order.{struct_members, plan_call, order_call}
use Rattle.wgsl.specs.Claim.{SameReached, SameAnswers}
use Rattle.wgsl.proofs.Accepted.{accepted}
use Rattle.wgsl.proofs.AtEntry.{get_elem_low, Refers, to_none, to_vector, to_matrix, to_array, to_runtime, to_atomic, to_members, refers}
use Rattle.wgsl.proofs.Reach.{at, links_of, links, reached_there}
use Rattle.wgsl.proofs.UniformPart.{same_reached}
use Rattle.wgsl.proofs.SameEntries.{SameEntries}

module _ {f g : List ℕ} (same : SameEntries f g) (types : types_of f ≡ types_of g) where
  -- ---- what an entry refers to

  member_types_lem : (n m : ℕ) → m + n ≤ (trailer_of f).members → member_types f n m ≡ member_types g n m
  unfolding member_types
  member_types_lem zero m h = refl
  member_types_lem (suc n) m h = rw (same.member m (omega arith), member_types_lem n (suc m) (omega arith))

  links_same : {ts : List Ty} {k : ℕ} {t : Ty} (x : TypeEntry) → Refers f ts k x t → links_of f x t ≡ links_of g x t
  unfolding links_of
  links_same x (to_none s) = refl
  links_same x (to_vector s low below) = refl
  links_same x (to_matrix s low below) = refl
  links_same x (to_array u low below) = refl
  links_same x (to_runtime u uncounted low below) = refl
  links_same x (to_atomic s low below) = refl
  links_same x (to_members ms are within) = member_types_lem x.count x.reference within

  module _ {ts : List Ty} (good_file : types_of f ≡ good ts) where
    references : (k : ℕ) (t : Ty) → get_elem? ts k ≡ some t → refers_to f k ≡ refers_to g k
    references k t there =
        let low : k < (trailer_of f).types = rw (← (accepted f ts good_file).count) (get_elem_low ts k there) in
        links f ts good_file k there
        ∙ links_same (type_entry_at f k) (refers (at f ts good_file there))
        ∙ ap (λ (x : TypeEntry). links_of g x t) (same.entry k low)
        ∙ sym (links g ts (sym types ∙ good_file) k there)

    -- ---- the uniform call

    reached : (e : ℕ) (t : Ty) → get_elem? ts e ≡ some t → SameReached f g e
    reached e t there = record {
      types = ts;
      types' = ts;
      accepted = good_file;
      accepted' = sym types ∙ good_file;
      same_type = λ k reach. refl;
      same_references = λ k reach. let x = reached_there f ts good_file there reach in references k x.1.0 x.1.1;
    }

  -- ---- all calls

  entry_same : (e : ℕ) → entry_of f e ≡ entry_of g e
  unfolding entry_of
  entry_same e = rw types refl

  for_same : (stored : Bool) (e : ℕ) (b : List ℕ) → entry_for stored f e b ≡ entry_for stored g e b
  unfolding entry_for
  for_same stored e b = rw (entry_same e) refl

  target_same : (stored : Bool) (e : ℕ) (path b : List ℕ) → target_call stored f e path b ≡ target_call stored g e path b
  unfolding target_call
  target_same stored e path b = rw (for_same stored e b) refl

  integer_same : (e : ℕ) (path b : List ℕ) → integer_at f e path b ≡ integer_at g e path b
  unfolding integer_at
  integer_same e path b = rw (target_same true e path b) refl

  uniform_same : (e : ℕ) → uniform_call f e ≡ uniform_call g e
  unfolding uniform_call ◌>>=◌ or_refuse
  uniform_same e = go (types_of f) refl
    where
      at_entry : (ts : List Ty) (o : Option Ty) → types_of f ≡ good ts → get_elem? ts e ≡ o → uniform_call f e ≡ uniform_call g e
      at_entry ts (some t) p there = same_reached f g e (reached p e t there)
      at_entry ts none p missing = rw (← types, p, missing) refl

      go : (s : Said (List Ty)) → types_of f ≡ s → uniform_call f e ≡ uniform_call g e
      go (good ts) p = at_entry ts (get_elem? ts e) p refl
      go (refused number place) p = rw (← types, p) refl

  block_same : (e mask bytes : ℕ) → block_entry f e mask bytes ≡ block_entry g e mask bytes
  unfolding block_entry
  block_same e mask bytes = rw (entry_same e) refl

  both_same : (e mask : ℕ) (factory site : List ℕ) → block_in f e mask factory site ≡ block_in g e mask factory site
  unfolding block_in
  both_same e mask factory site = rw (block_same e mask (max (length factory) (length site))) refl

  member_same : (e k mask : ℕ) (factory site : List ℕ) → member_call f e k mask factory site ≡ member_call g e k mask factory site
  unfolding member_call
  member_same e k mask factory site = rw (both_same e mask factory site) refl

  pub same_answers : SameAnswers f g
  unfolding check_of size_call align_call min_size_call layout_call read_call write_call view_call set_call extract_call insert_call rank_call common_call inheriting_call fresh_call clear_call site_set_call clean_call struct_members plan_call order_call
  same_answers = record {
    check = rw types refl;
    size = λ e. rw (entry_same e) refl;
    align = λ e. rw (entry_same e) refl;
    minimum_size = λ e. rw (entry_same e) refl;
    layout = λ e. rw (entry_same e) refl;
    read = λ e b ws. rw (for_same true e b) refl;
    write = λ e ws b. rw (for_same true e b) refl;
    view = λ e steps b. target_same false e steps b;
    set = λ e steps ws b. rw (target_same true e steps b) refl;
    extract = λ e steps b offset count. rw (integer_same e steps b) refl;
    insert = λ e steps new offset count b. rw (integer_same e steps b) refl;
    uniform = uniform_same;
    rank = λ x y. rw (entry_same x, entry_same y) refl;
    common = λ es. rw types refl;
    listing = rw types refl;
    site_inheriting = λ e. rw (block_same e 0 0) refl;
    site_fresh = λ e factory site. rw (both_same e 0 factory site) refl;
    site_clear = λ e k mask. rw (block_same e mask 0) refl;
    site_member = member_same;
    site_set = λ e k steps ws mask factory site. rw (member_same e k mask factory site) refl;
    clean = λ e b. rw (for_same true e b) refl;
    plan_order = λ e lent. rw (entry_same e) refl;
    check_order = λ e order. rw (entry_same e) refl;
  }
