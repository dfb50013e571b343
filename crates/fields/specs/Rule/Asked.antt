-- What the updates and their promises are said of: a sound table, and a seat, a tab or a suffix as the rule needs it. Assumes
-- nothing.
use Rattle.std.specs.Prelude.{ℕ, ◌<◌, ◌≡◌, true, ◌≢◌, List, length}
use Rattle.terms.specs.Names.{is_name, has_dot}
use Rattle.terms.specs.Base.{Range}
use Rattle.fields.specs.Rule.View.{tenant, selected, opens}
use Rattle.fields.specs.Rule.Layout.{most_opens, view}
use Rattle.fields.specs.Rule.Sound.{sound_table}
use Rattle.fields.specs.Rule.Word.{live}
use Rattle.fields.specs.Rule.Find.{live_tabs}

-- a seat with a free slot
pub record HasSlot (t : List ℕ) (s : ℕ) : Type 0 where
  pub sound : sound_table t ≡ true
  pub seat : Range 1 8 s
  pub slot : live_tabs (view t) s < 10

-- an open: a let seat with a slot and a serial left, and a suffix
pub record Openable (t : List ℕ) (s : ℕ) (suffix : List ℕ) : Type 0 where
  pub sound : sound_table t ≡ true
  pub seat : Range 1 8 s
  pub is_let : view t (tenant s) ≢ 0
  pub slot : live_tabs (view t) s < 10
  pub more : view t (opens s) < most_opens
  pub name : is_name suffix ≡ true
  pub dotted : has_dot suffix ≡ true
  pub long : Range 3 64 (length suffix)

-- a close: a seat with a tab selected
pub record Closable (t : List ℕ) (s : ℕ) : Type 0 where
  pub sound : sound_table t ≡ true
  pub seat : Range 1 8 s
  pub picked : view t (selected s) ≢ 0

-- a selection, or a mark: a live tab
pub record TabLive (t : List ℕ) (s k : ℕ) : Type 0 where
  pub sound : sound_table t ≡ true
  pub there : live (view t) s k ≡ true
