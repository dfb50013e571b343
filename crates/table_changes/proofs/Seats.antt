-- A seat that is let is there, and so is each of its tab rows. Assumes nothing.
use Rattle.std.specs.Prelude.{List, ℕ, ◌≤◌}
use Rattle.fields.specs.Table.{SeatOf, TabOf}
use Rattle.fields.specs.Laws.Asked.{sound_seat}
use Rattle.table_changes.specs.Seat.{LetSeat}

pub seat_of : {t : List ℕ} {s : ℕ} → LetSeat t s → SeatOf t s
seat_of w = sound_seat w.seated.sound w.seated.seat

pub tab_of : {t : List ℕ} {s k : ℕ} → LetSeat t s → 1 ≤ k → k ≤ 10 → TabOf t s k
tab_of w low high = record { long = (seat_of w).long; seat = (seat_of w).seat; slot = record { low = low; high = high } }
