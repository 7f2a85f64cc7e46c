-- Kinds that several lists share.
use Rattle.std.specs.Prelude.{Bool, true, ◌&&◌, List, [], ◌∷◌, Option, Some, None}
use Rattle.std.specs.List.{list_all}
use Rattle.std.specs.Rc.{rc_slice_items}
use Rattle.std.specs.declared.rc.RcSlice.{RcSlice}
use Rattle.class_verify.specs.declared.kinds.Kind.{Kind}
use Rattle.class_verify.specs.Kinds.{is_top, fits}

-- none where there is nothing that is shared
abbrev pub shared_items : {X Z : Type 0} → Option (RcSlice X Z) → List X
shared_items None = []
shared_items (Some it) = rc_slice_items it

-- kinds fit others as far as both go, and the others behind them are Top
abbrev pub kept_fit : List Kind → List Kind → Bool
kept_fit [] others = list_all is_top others
kept_fit (kind ∷ kinds) [] = true
kept_fit (kind ∷ kinds) (wanted ∷ others) = fits kind wanted && kept_fit kinds others
