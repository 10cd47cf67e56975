-- What contracts see of a pool.
use Rattle.pm_pool.specs.Region.{Region}
use Rattle.pm_pool.specs.declared.pool.Pool.TheInside.{Inside}

-- the region that the lists of a pool make
abbrev pub region_of : Inside → Region
region_of p = record { live = p.live.items; next = p.next.items; prev = p.prev.items; twin = p.twin.items }
