-- Jobs that are taken out of places, one place after another: docs/specification/tables.md, "Places of a callback".
use Rattle.std.specs.Prelude.{◌≡◌, ◌+◌, List, ◌++◌, map, length, vec_len, vec_capacity}
use Rattle.std.specs.declared.alloc.Global.{Global}
use Rattle.std.specs.declared.vec.Vec.{Vec}
use Rattle.rcu_jobs.specs.declared.callback.Callback.{Callback}

module _ {J : Type 0} where
  abbrev pub jobs_of : List (Callback J) → List J
  jobs_of cs = map (λ c. c.job) cs

  -- the jobs of these callbacks came behind the others, in the room that there was
  pub record Takes (cs : List (Callback J)) (old new : Vec J Global) : Type 0 where
    pub jobs : new.items ≡ old.items ++ jobs_of cs
    pub len : vec_len new ≡ vec_len old + length cs
    pub room : vec_capacity new ≡ vec_capacity old
