-- The cases of the two starts of a site block (02, E11), on each side of an edge.
--
-- Through the bytes of files and the definitions of the calls. One test, `start_cases_pass`, which the checker computes.
-- Definitions only. Assumes nothing.
use Rattle.std.specs.Prelude.{ℕ, ◌^◌, ◌-◌, ◌*◌, List, [], ◌∷◌, ◌++◌, Bool, ◌&&◌, replicate, eqb}
use Rattle.wgsl.specs.Number.{bytes_of}
use Rattle.wgsl.specs.Said.{Said, good, refused}
use Rattle.wgsl.specs.Path.{Target}
use Rattle.wgsl.specs.Call.{part_of}
use Rattle.wgsl.specs.Site.{fresh_call, member_call, handed_from, SiteDone, site_answer, site_after, mask_set}
use Rattle.wgsl.specs.StartClaim.{Kept, made_inheriting, Change, set, clear, left_after}
use Rattle.wgsl.specs.Case.{says, all_pass}
use Rattle.wgsl.specs.StrideCase.{reads}
use Rattle.wgsl.specs.SiteCase.{settings, wide_struct, factory_bytes, site_bytes}

-- ---- what a case says

-- a fresh block of an entry, where the mask was 9, leaves this answer, this mask and these bytes
unfoldable pub leaves_fresh : ℕ → List ℕ → List ℕ → Said ℕ → ℕ → List ℕ → Bool
leaves_fresh e factory site answer mask bytes =
    let said : Said SiteDone = fresh_call settings e factory site in
    says (site_answer said) answer && eqb (mask_set 9 said) mask && reads (site_after site said) bytes

-- the same of a struct of so many u32
unfoldable pub leaves_wide : ℕ → Said ℕ → ℕ → Bool
leaves_wide n answer mask =
    let said : Said SiteDone = fresh_call (wide_struct n) 1 (replicate (n * 4) 1) (replicate (n * 4) 0) in
    says (site_answer said) answer && eqb (mask_set 9 said) mask

-- the two starts of the struct of the cases
unfoldable pub started_fresh : Kept
started_fresh =
    let said : Said SiteDone = fresh_call settings 3 factory_bytes site_bytes in
    record { site = site_after site_bytes said; mask = mask_set 9 said }

unfoldable pub started_inheriting : Kept
started_inheriting = made_inheriting site_bytes 0

-- after these changes a member is shown with these bytes, beside this factory buffer
unfoldable pub shows_after : Kept → List Change → List ℕ → ℕ → List ℕ → Bool
shows_after start cs beside k bytes =
    let b : Kept = left_after settings 3 factory_bytes cs start in
    let said : Said Target = member_call settings 3 k b.mask beside b.site in
    reads (part_of said (handed_from said b.mask k beside b.site)) bytes

-- from either start
unfoldable pub both_show : List Change → ℕ → List ℕ → Bool
both_show cs k bytes =
    shows_after started_fresh cs factory_bytes k bytes && shows_after started_inheriting cs factory_bytes k bytes

-- another factory sheet of that size
unfoldable pub new_sheet : List ℕ
new_sheet = replicate 24 7

-- ---- the cases

unfoldable pub start_cases : List Bool
start_cases =
    -- "the factory's bytes copied into the site buffer and every member's bit set": gaps too
    leaves_fresh 3 factory_bytes site_bytes (good 0) 7 factory_bytes
    -- the struct's size alone: what the factory buffer has beyond it is not copied, and later bytes of the site buffer stay
    ∷ leaves_fresh 3 (factory_bytes ++ 8 ∷ []) (site_bytes ++ 3 ∷ 4 ∷ []) (good 0) 7 (factory_bytes ++ 3 ∷ 4 ∷ [])
    -- 1, 63 and 64 members; 65 are no block
    ∷ leaves_wide 1 (good 0) 1
    ∷ leaves_wide 63 (good 0) (2 ^ 63 - 1)
    ∷ leaves_wide 64 (good 0) (2 ^ 64 - 1)
    ∷ leaves_wide 65 (refused 21 0) 9
    -- "all that asking for a member gives, up to 15, before anything is copied": 8, 10, 21 for no struct and for an open one, 15
    ∷ leaves_fresh 8 [] [] (refused 8 0) 9 []
    ∷ leaves_fresh 7 [] [] (refused 10 0) 9 []
    ∷ leaves_fresh 0 [] [] (refused 21 0) 9 []
    ∷ leaves_fresh 5 factory_bytes site_bytes (refused 21 0) 9 site_bytes
    ∷ leaves_fresh 3 (replicate 23 1) site_bytes (refused 15 0) 9 site_bytes
    ∷ leaves_fresh 3 factory_bytes (replicate 23 1) (refused 15 0) 9 (replicate 23 1)
    -- "E8's answers after any set or clear stand, from either start"
    ∷ both_show [] 1 (bytes_of 4 3 ++ bytes_of 4 4)
    ∷ both_show (set 1 (1 ∷ []) (9 ∷ []) ∷ []) 1 (bytes_of 4 3 ++ bytes_of 4 9)
    ∷ both_show (set 1 (1 ∷ []) (9 ∷ []) ∷ set 1 (0 ∷ []) (8 ∷ []) ∷ []) 1 (bytes_of 4 8 ++ bytes_of 4 9)
    ∷ both_show (set 1 (1 ∷ []) (9 ∷ []) ∷ clear 1 ∷ []) 1 (bytes_of 4 3 ++ bytes_of 4 4)
    ∷ both_show (clear 1 ∷ set 1 (1 ∷ []) (9 ∷ []) ∷ []) 1 (bytes_of 4 3 ++ bytes_of 4 9)
    ∷ both_show (clear 3 ∷ set 1 (2 ∷ []) (9 ∷ []) ∷ clear 0 ∷ []) 1 (bytes_of 4 3 ++ bytes_of 4 4)
    -- "When the factory sheet changed, boards in the field changed with it": a fresh block does not, until a member is cleared
    ∷ shows_after started_fresh [] new_sheet 1 (bytes_of 4 3 ++ bytes_of 4 4)
    ∷ shows_after started_fresh (clear 0 ∷ []) new_sheet 1 (bytes_of 4 3 ++ bytes_of 4 4)
    ∷ shows_after started_fresh (clear 1 ∷ []) new_sheet 1 (replicate 8 7)
    -- an inheriting one does, until a scalar is set in it
    ∷ shows_after started_inheriting [] new_sheet 1 (replicate 8 7)
    ∷ shows_after started_inheriting (set 1 (1 ∷ []) (9 ∷ []) ∷ []) new_sheet 1 (bytes_of 4 3 ++ bytes_of 4 9)
    ∷ []

unfoldable pub start_cases_pass : Bool
start_cases_pass = all_pass start_cases
