-- The role of a block as the code gives it, read back.
use Rattle.address.specs.Role.{Role, meta, bucket_page, bit_page, unmade}
use Rattle.address.specs.declared.BlockRole.{BlockRole}
use Rattle.address.specs.declared.BlockRole.TheVariants.{Meta, Bucket, Bit, Unmade}

abbrev pub as_role : BlockRole → Role
as_role Meta = meta
as_role (Bucket b) = bucket_page b
as_role (Bit n) = bit_page n
as_role Unmade = unmade
