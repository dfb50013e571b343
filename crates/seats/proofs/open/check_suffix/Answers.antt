-- The question's refusal; then the part is all of x exactly if it is as long. Assumes nothing.
use Rattle.std.proofs.Common.{arith, refl}
use Rattle.rules.proofs.Steps.Number.{book_six, book_seven, book_part, book_takes}
use Rattle.seats.proofs.open.check_suffix.Goals as goal

pub returns-in-Ok : goal.returns-in-Ok
returns-in-Ok c = let told = c.in-Ok.ensures.given in book_takes _ _ told.says told.gives refl c.if-own-x.true

pub returns-in-Ok-2 : goal.returns-in-Ok-2
returns-in-Ok-2 c = let told = c.in-Ok.ensures.given in book_part _ _ told.says told.gives refl c.if-own-x.false

pub returns-in-Err-UnsoundBook : goal.returns-in-Err-UnsoundBook
returns-in-Err-UnsoundBook c =
    let told = c.in-Err-UnsoundBook.ensures.refused in book_six _ _ (rw c.in-Err-UnsoundBook.field-0-is at told.says) refl

pub returns-in-Err-Unfit : goal.returns-in-Err-Unfit
returns-in-Err-Unfit c =
    let told = c.in-Err-Unfit.ensures.refused in
    book_seven _ _ (rw c.in-Err-Unfit.field-0-is at told.says) (λ e. omega arith) (λ e. omega arith)
