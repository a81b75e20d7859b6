-- What several calls together do to the bytes left and the bytes written: for callers of sources and sinks.
use Rattle.std.proofs.Common.{ℕ, List, [], ◌++◌, Option}
use Rattle.std.proofs.KnownBytes.{Consumes-trans, Appends-trans, Consumes-nil, Appends-nil}
use Rattle.std.specs.Io.KnownBytes.{Consumes, Appends}

-- first one part was taken from the bytes left, then another: together one after the other
pub Consumes-join : (before mid now : Option (List ℕ)) (one two : List ℕ)
    → Consumes before mid one → Consumes mid now two → Consumes before now (one ++ two)
Consumes-join before mid now one two = Consumes-trans before mid now one two

-- first one part was written, then another: together one after the other
pub Appends-join : (before mid now : Option (List ℕ)) (one two : List ℕ)
    → Appends before mid one → Appends mid now two → Appends before now (one ++ two)
Appends-join before mid now one two = Appends-trans before mid now one two

-- nothing was taken from bytes that stay as they were
pub Consumes-none : (known : Option (List ℕ)) → Consumes known known []
Consumes-none known = Consumes-nil known

-- nothing was written to bytes that stay as they were
pub Appends-none : (known : Option (List ℕ)) → Appends known known []
Appends-none known = Appends-nil known
