-- `answer::put_answer`: the number has one digit, the part 64 bytes at most, and each word stands where the one before it ends.
use Rattle.std.proofs.Common.{◌∙◌, arith}
use Rattle.asksuffix.specs.Laws.Line.{number_word, part_sized, wrote_answer}
use Rattle.asksuffix.proofs.answer.put_answer.Goals as goal

pub put_payload-b-requires : goal.put_payload-b-requires
put_payload-b-requires c =
    let told = c.told-why.ensures in
    let w = number_word c.args.book.now c.args.host.now (c.from.ensures ∙ told.says) in
    let p = (part_sized c.args.book.now c.args.host.now told.gives).short in
    omega (arith, c.requires, c.put_decimal-a.ensures.next)

pub put-requires : goal.put-requires
put-requires c =
    let told = c.told-why.ensures in
    let w = number_word c.args.book.now c.args.host.now (c.from.ensures ∙ told.says) in
    let p = (part_sized c.args.book.now c.args.host.now told.gives).word in
    omega (arith, c.requires, c.put_decimal-a.ensures.next, c.put_payload-b.ensures.next)

pub returns : goal.returns
returns c =
    let told = c.told-why.ensures in
    wrote_answer c.args.book.now c.args.host.now (c.from.ensures ∙ told.says) told.gives c.put_decimal-a.ensures
    c.put_payload-b.ensures c.put.ensures
