-- A hop in which nothing waits.
use Rattle.std.proofs.Common.{◌≡◌, false, List, [], ◌∷◌, ◌++◌, refl}
use Rattle.loads.specs.declared.frames.Frame.{Frame}
use Rattle.channel.specs.Rules.{held}

-- it has no frame in far
pub far_none : {T : Type 0} (far near : List (Frame T))
    → held (far ++ near) ≡ false → far ≡ []
far_none [] near free = refl
far_none (oldest ∷ others) near free = cc
