-- The cases of a factory sheet and a site block (02, E8), on each side of an edge.
--
-- Through the bytes of files and the definitions of the calls. One test, `site_cases_pass`, which the checker computes.
-- Definitions only. Assumes nothing.
use Rattle.std.specs.Prelude.{ℕ, zero, suc, ◌^◌, ◌-◌, List, [], ◌∷◌, ◌++◌, Bool, ◌&&◌, replicate, eqb}
use Rattle.wgsl.specs.Number.{bytes_of}
use Rattle.wgsl.specs.Said.{Said, good, refused}
use Rattle.wgsl.specs.Path.{Target}
use Rattle.wgsl.specs.Call.{offset_of, part_of}
use Rattle.wgsl.specs.Site.{inheriting_call, member_call, handed_from, SiteDone, site_set_call, site_answer, site_after, mask_set, clear_call}
use Rattle.wgsl.specs.Case.{says, type_entry, member_entry, member_given, trailer, all_pass}
use Rattle.wgsl.specs.StrideCase.{reads}

-- ---- files

-- u32; f16; vec2 of u32; a struct of a u32 with a given size of 8, a vec2 and an f16; a runtime array; a struct that ends in it; bool, and a
-- struct of one
unfoldable pub settings : List ℕ
settings =
    type_entry 2 0 0 0 0
    ++ type_entry 4 0 0 0 0
    ++ type_entry 7 0 2 0 0
    ++ type_entry 12 0 0 0 3
    ++ type_entry 10 0 0 0 0
    ++ type_entry 12 0 0 3 1
    ++ type_entry 0 0 0 0 0
    ++ type_entry 12 0 0 4 1
    ++ member_given 0 1 8 0
    ++ member_entry 2
    ++ member_entry 1
    ++ member_entry 4
    ++ member_entry 6
    ++ trailer 8 5

-- u32, and a struct of so many of them
unfoldable pub repeated_member : ℕ → List ℕ
repeated_member zero = []
repeated_member (suc n) = member_entry 0 ++ repeated_member n

unfoldable pub wide_struct : ℕ → List ℕ
wide_struct n = type_entry 2 0 0 0 0 ++ type_entry 12 0 0 0 n ++ repeated_member n ++ trailer 2 n

-- the struct's 24 bytes: member 0 at 0, of which bytes 4 to 7 are given and not its type's; member 1 at 8; member 2 at 16
unfoldable pub factory_bytes : List ℕ
factory_bytes = bytes_of 4 1 ++ bytes_of 4 2 ++ bytes_of 4 3 ++ bytes_of 4 4 ++ bytes_of 2 5 ++ replicate 6 6

unfoldable pub site_bytes : List ℕ
site_bytes = replicate 24 255

-- ---- what a case says

-- a member is shown with these bytes
unfoldable pub shows : ℕ → ℕ → List ℕ → Bool
shows k mask bytes =
    let said : Said Target = member_call settings 3 k mask factory_bytes site_bytes in
    reads (part_of said (handed_from said mask k factory_bytes site_bytes)) bytes

-- a set leaves this answer, this mask and these bytes
unfoldable pub leaves : Said SiteDone → ℕ → Said ℕ → ℕ → List ℕ → Bool
leaves said before answer mask bytes =
    says (site_answer said) answer && eqb (mask_set before said) mask && reads (site_after site_bytes said) bytes

unfoldable pub set_in : ℕ → List ℕ → List ℕ → ℕ → Said SiteDone
set_in k steps ws mask = site_set_call settings 3 k steps ws mask factory_bytes site_bytes

-- ---- the cases

unfoldable pub site_cases : List Bool
site_cases =
    -- the start with mask 0, since E11 an inheriting block; 21 for no struct and for an open one, 10, 8
    says (inheriting_call settings 3) (good 0)
    ∷ says (inheriting_call settings 0) (refused 21 0)
    ∷ says (inheriting_call settings 5) (refused 21 0)
    ∷ says (inheriting_call settings 7) (refused 10 0)
    ∷ says (inheriting_call settings 8) (refused 8 0)
    -- "at most 64 members"
    ∷ says (inheriting_call (wide_struct 64) 1) (good 0)
    ∷ says (inheriting_call (wide_struct 65) 1) (refused 21 0)
    -- "mask bits beyond them", and bit 63
    ∷ says (clear_call (wide_struct 64) 1 63 (2 ^ 64 - 1)) (good (2 ^ 63 - 1))
    ∷ says (clear_call settings 3 0 7) (good 6)
    ∷ says (clear_call settings 3 0 8) (refused 21 0)
    ∷ says (clear_call settings 3 1 5) (good 5)
    -- "11 for k (place 0)": any number is one of a member, and no step
    ∷ says (clear_call settings 3 3 0) (refused 11 0)
    ∷ says (clear_call settings 3 2_147_483_649 0) (refused 11 0)
    -- "its bytes as a part of the site buffer if bit k is set, else of the factory buffer"; "those of its type's size"
    ∷ shows 0 0 (bytes_of 4 1)
    ∷ shows 0 1 (replicate 4 255)
    ∷ shows 1 5 (bytes_of 4 3 ++ bytes_of 4 4)
    ∷ shows 1 2 (replicate 8 255)
    ∷ shows 3 0 []
    -- "then 15 for either buffer", before 11
    ∷ says (offset_of (member_call settings 3 3 0 (replicate 23 0) site_bytes)) (refused 15 0)
    ∷ says (offset_of (member_call settings 3 3 0 factory_bytes (replicate 23 0))) (refused 15 0)
    ∷ says (offset_of (member_call settings 3 1 0 factory_bytes site_bytes)) (good 8)
    -- "Setting a scalar in member k writes the site buffer and sets the bit; where the bit was clear, the member's bytes are first copied"
    ∷ leaves (set_in 1 (1 ∷ []) (9 ∷ []) 0) 0 (good 12) 2 (replicate 8 255 ++ bytes_of 4 3 ++ bytes_of 4 9 ++ replicate 8 255)
    ∷ leaves (set_in 1 (1 ∷ []) (9 ∷ []) 6) 6 (good 12) 6 (replicate 12 255 ++ bytes_of 4 9 ++ replicate 8 255)
    -- bytes of the given size after the type's stay
    ∷ leaves (set_in 0 [] (9 ∷ []) 4) 4 (good 0) 5 (bytes_of 4 9 ++ replicate 20 255)
    -- "then set's refusals for path and word": nothing is copied, and no bit set
    ∷ leaves (set_in 1 (2 ∷ []) (9 ∷ []) 0) 0 (refused 12 0) 0 site_bytes
    ∷ leaves (set_in 1 (0 ∷ 0 ∷ []) (9 ∷ []) 0) 0 (refused 13 1) 0 site_bytes
    ∷ leaves (set_in 1 [] (9 ∷ []) 0) 0 (refused 14 0) 0 site_bytes
    ∷ leaves (set_in 1 (0 ∷ []) [] 0) 0 (refused 14 0) 0 site_bytes
    ∷ leaves (set_in 2 [] (65_536 ∷ []) 0) 0 (refused 16 0) 0 site_bytes
    ∷ leaves (set_in 3 [] (9 ∷ []) 0) 0 (refused 11 0) 0 site_bytes
    ∷ []

unfoldable pub site_cases_pass : Bool
site_cases_pass = all_pass site_cases
