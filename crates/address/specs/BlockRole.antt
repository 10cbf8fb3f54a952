-- The role of a block, as the code gives it.
use Rattle.address.specs.Role.{Role, meta, bucket_page, bit_page, unmade}
use Rattle.address.specs.declared.BlockRole.{BlockRole}
use Rattle.address.specs.declared.BlockRole.TheVariants.{Meta, Bucket, Bit, Unmade}

abbrev pub role_case : Role → BlockRole
role_case meta = Meta
role_case (bucket_page b) = Bucket b
role_case (bit_page n) = Bit n
role_case unmade = Unmade
