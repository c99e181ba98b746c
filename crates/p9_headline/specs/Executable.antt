-- Executables without symbols.
use Rattle.std.specs.Prelude.{◌≡◌, ℕ, List, [], Ok}
use Rattle.p9_aout.specs.Image.{image_of, parts_of}
use Rattle.p9_aout.specs.Spelled.{spelled}
use Rattle.p9_aout.specs.declared.format.Image.{Image}

-- the bytes are exactly the spelling of an image: no symbol stands in it, and no byte behind it
pub record IsStripped (bytes : List ℕ) : Type 0 where
  pub image : Image
  pub no_symbols : image.syms.items ≡ []
  pub spelling : bytes ≡ spelled image
  pub is : image_of bytes ≡ Ok (parts_of image)
