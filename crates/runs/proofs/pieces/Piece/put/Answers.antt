-- Each piece writes its bytes, the letter repeated as far as there is room. Assumes nothing.
use Rattle.std.proofs.Common.{◌≡◌, ℕ, ◌-◌, min, length, List, sym, ◌∙◌, ap, rules, replicate}
use Rattle.std.proofs.lemmas.List.Edits.{sets}
use Rattle.runs.specs.declared.pieces.Piece.{Piece}
use Rattle.runs.specs.Pieces.{bytes_of}
use Rattle.runs.proofs.Stores.{sets_filled}
use Rattle.runs.proofs.pieces.Piece.put.Goals as goal
use Rattle.runs.proofs.pieces.Piece.put.Goals.{in-Text, in-Byte, in-Two, in-Four, in-Repeated}

pub returns-clause-written : goal.returns-clause-written
returns-clause-written c =
    let a = c.args in
    let after = λ (bytes : List ℕ). sets a.to.now a.at bytes in
    let of = λ (p : Piece). after (bytes_of p) in
    elim c.match-self.branch [
      | in-Text w ↦ w.to-is ∙ w.put.ensures ∙ ap of (sym w.in-Text.is)
      | in-Byte w ↦ w.to-is ∙ w.put-in-Byte.ensures ∙ ap of (sym w.in-Byte.is)
      | in-Two w ↦ w.to-is ∙ w.put-in-Two.ensures ∙ ap after w.to_be_bytes.ensures ∙ ap of (sym w.in-Two.is)
      | in-Four w ↦ w.to-is ∙ w.put-in-Four.ensures ∙ ap after w.to_be_bytes-in-Four.ensures ∙ ap of (sym w.in-Four.is)
      | in-Repeated w ↦
          let room = length a.to.now - a.at in
          let n = c.min-n.ensures ∙ ap (λ m. min m room) (c.len.ensures ∙ ap (λ (p : Piece). length (bytes_of p)) w.in-Repeated.is) in
          w.to-is
          ∙ sets_filled a.to.now a.at c.min-n.result w.in-Repeated.times w.in-Repeated.letter w.fill.new.self (search rules) n (w.fill.ensures.after (λ y e. e))
          ∙ ap of (sym w.in-Repeated.is)
    ]
