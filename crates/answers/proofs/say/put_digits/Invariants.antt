-- What is put is ASCII, as all the rest.
use Rattle.std.proofs.Common.{◌≡◌, IsAscii, length}
use Rattle.answers.proofs.say.put_digits.Given as goal

abbrev pub invariant-loop-i : goal.invariant-loop-i
invariant-loop-i l = (length l.room ≡ length l.initial.room) × IsAscii l.room
