-- Lists that begin with another list.
use Rattle.std.specs.Prelude.{◌≡◌, List, ◌++◌}

module _ {A : Type 0} where
  -- the longer list is the shorter one followed by the rest
  pub record IsPrefix (shorter longer : List A) : Type 0 where
    pub rest : List A
    pub joined : shorter ++ rest ≡ longer
