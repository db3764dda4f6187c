-- The papers' number and place of each refusal (01, "Numbers that say no"; 02, request by request).
-- Definitions only. Assumes nothing.
use Rattle.std.specs.Prelude.{ℕ}
use Rattle.said.specs.declared.refusal.Refusal.{Refusal}
use Rattle.said.specs.declared.refusal.Refusal.TheVariants.{Short, Form, Counts, Length, Rule, Given, Large, Missing, Absent, Unstorable, NoMember, PastEnd, NoIndex, Count, Buffer, Word, Long, NoRank, NotUniform, Named, NoSite, NoOrder, Stray, NoConversion}

abbrev pub number_of : Refusal → ℕ
number_of Short = 1
number_of Form = 2
number_of Counts = 3
number_of Length = 4
number_of (Rule entry) = 5
number_of (Given entry) = 6
number_of (Large entry) = 7
number_of Missing = 8
number_of Absent = 9
number_of Unstorable = 10
number_of (NoMember step) = 11
number_of (PastEnd step) = 12
number_of (NoIndex step) = 13
number_of Count = 14
number_of Buffer = 15
number_of (Word position) = 16
number_of Long = 17
number_of NoRank = 18
number_of (NotUniform entry) = 19
number_of Named = 20
number_of NoSite = 21
number_of NoOrder = 23
number_of (Stray member) = 24
number_of NoConversion = 25

abbrev pub place_of : Refusal → ℕ
place_of Short = 0
place_of Form = 0
place_of Counts = 0
place_of Length = 0
place_of (Rule entry) = entry
place_of (Given entry) = entry
place_of (Large entry) = entry
place_of Missing = 0
place_of Absent = 0
place_of Unstorable = 0
place_of (NoMember step) = step
place_of (PastEnd step) = step
place_of (NoIndex step) = step
place_of Count = 0
place_of Buffer = 0
place_of (Word position) = position
place_of Long = 0
place_of NoRank = 0
place_of (NotUniform entry) = entry
place_of Named = 0
place_of NoSite = 0
place_of NoOrder = 0
place_of (Stray member) = member
place_of NoConversion = 0
