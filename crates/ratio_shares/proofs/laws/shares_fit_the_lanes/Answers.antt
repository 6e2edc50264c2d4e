use Rattle.ratio_shares.proofs.Claims.{shares-le}
use Rattle.ratio_shares.proofs.laws.shares_fit_the_lanes.Goals as goal

pub returns : goal.returns
returns c = shares-le
