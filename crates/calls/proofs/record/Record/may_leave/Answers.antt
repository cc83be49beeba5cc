-- The room first, then the view.
use Rattle.std.proofs.Common.{rules}
use Rattle.calls.specs.Calls.{leave_call}
use Rattle.calls.proofs.record.Record.may_leave.Goals as goal

pub returns-in_err-room : goal.returns-in_err-room
unfolding leave_call
returns-in_err-room c = λ v. let e = c.room.ensures v in search rules

pub returns-in-Some : goal.returns-in-Some
unfolding leave_call
returns-in-Some c = λ v. let e = c.room.ensures v in search rules

pub returns-in_default : goal.returns-in_default
unfolding leave_call
returns-in_default c = λ v. let e = c.room.ensures v in search rules

pub returns-in_default-2 : goal.returns-in_default-2
unfolding leave_call
returns-in_default-2 c = λ v. let e = c.room.ensures v in search rules
