-- What a pass clears as it begins.
-- Assumes nothing.
use mathlib.Core.Path.{◌≡◌, refl}
use mathlib.Core.Bool.{true, false}
use Rattle.crate_pass.specs.declared.PassKind.{PassKind}
use Rattle.crate_pass.specs.declared.PassKind.TheVariants.{Reprogramming, Ping, Rates}
use Rattle.crate_pass.specs.Crate.{clears_list, is_rate_pass}

-- one that clears the list leaves the rates
pub lists-only : (kind : PassKind) → clears_list kind ≡ true → is_rate_pass kind ≡ false
lists-only Reprogramming e = refl
lists-only Ping e = refl
lists-only Rates e = cc
