-- What stands at a place, by what the system answers of it.
use Rattle.std.specs.Prelude.{◌≡◌, ◌==◌, Result, Ok, Err, if◌then◌else◌, nat_eq}
use Rattle.std.specs.Fs.{metadata_len, file_type}
use Rattle.std.specs.declared.fs.attrs.Metadata.{Metadata}
use Rattle.std.specs.IoError.{error_kind}
use Rattle.std.specs.declared.io.Error.{Error}
use Rattle.io_traits.specs.declared.faults.IoFault.{IoFault}
use Rattle.io_real.specs.Kinds.{is_absence, fault_of}
use Rattle.io_real.specs.declared.finds.Found.{Found}
use Rattle.io_real.specs.declared.finds.Found.TheVariants.{File, Folder, Link, Nothing}

-- by its type: a folder, a file with its size, a link, or what is no content
abbrev pub found_as : Metadata → Found
found_as m = if (file_type m).bits == 0o040000 then Folder else (if (file_type m).bits == 0o100000 then File (metadata_len m) else (if (file_type m).bits == 0o120000 then Link else Nothing))

-- nothing, where the error says so; any other error is a fault
abbrev pub found_by : Result Metadata Error → Result Found IoFault
found_by (Ok m) = Ok (found_as m)
found_by (Err e) = if is_absence (error_kind e) then Ok Nothing else Err (fault_of (error_kind e))
