-- The small file is computed.
use Rattle.std.proofs.Common.{refl, arith}
use Rattle.p9_first.specs.FileExamples.{SmallFile}

pub small_file_of_form : SmallFile
small_file_of_form = record {
  file = record {
    form = ((tt, refl, omega arith), ((refl, refl, ((refl, (refl, omega arith)), ((refl, refl), tt))), tt));
    placed = (
      (refl, ((refl, tt), ((refl, tt), tt))),
      ((refl, ((refl, ((refl, tt), tt)), ((refl, ((refl, ((refl, ((refl, tt), ((refl, ((refl, tt), ((refl, tt), tt))), tt))), tt)), ((refl, ((refl, ((refl, tt), ((refl, tt), tt))), tt)), tt))), tt))), tt),
    );
  };
  written = refl;
  types = refl;
  symbols = refl;
}
