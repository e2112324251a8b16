-- The file's optional bytes, and zeros after them.
use Rattle.base_pools.proofs.Clearing.{cleared-past}
use Rattle.day_file.proofs.fill.fill_optional.Goals as goal

pub returns : goal.returns
returns c =
    cleared-past _ _ _ _ _ c.pool-1.given c.requires.room c.put_optional.ensures (c.fill.ensures.after (λ _ e. e))
