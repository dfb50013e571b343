-- Start, document 01: "Start writes a fresh table: let seats as ordered, the rest zero but for the trailer." Assumes nothing.
use Rattle.std.specs.Prelude.{ℕ, zero, suc, List, [], ◌∷◌}
use Rattle.terms.specs.Names.{orders, letting_of, tenant_of, options_of}
use Rattle.fields.specs.Base.{series}
use Rattle.fields.specs.Rule.View.{tenant, options, rows_at}
use Rattle.fields.specs.Rule.Layout.{form, table_bytes, write}
use Rattle.fields.specs.Rule.Update.{◌≔◌, writes}

-- zeros and the trailer
unfoldable pub blank : List ℕ
blank = write (series table_bytes (λ i. 0)) rows_at form.rows_begin

-- the same with seats 1 to n as the book orders them
unfoldable pub ordered : List ℕ → ℕ → List ℕ
ordered b zero = blank
ordered b (suc n) =
    writes (ordered b n)
    (tenant (suc n) ≔ tenant_of (letting_of (suc n) (orders b))
    ∷ options (suc n) ≔ options_of (letting_of (suc n) (orders b))
    ∷ [])

unfoldable pub fresh : List ℕ → List ℕ
fresh b = ordered b 8
