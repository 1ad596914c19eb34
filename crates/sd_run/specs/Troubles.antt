-- Public meaning: what the machine said of a file, as a user is told it.
use Rattle.std.specs.Prelude.{ℕ, List, string_bytes}
use Rattle.std.specs.declared.io.ErrorKind.{ErrorKind}
use Rattle.std.specs.declared.io.ErrorKind.TheVariants.{StorageFull, QuotaExceeded, PermissionDenied, IsADirectory}
use Rattle.std.specs.declared.io.ErrorKind.TheVariants.{BrokenPipe, ConnectionReset, ReadOnlyFilesystem, FileTooLarge}
use Rattle.std.specs.declared.io.ErrorKind.TheVariants.{FilesystemLoop, InvalidFilename}
use Rattle.std.specs.declared.io.ErrorKind.TheVariants as kind
use Rattle.sd_command_base.specs.declared.trouble.Trouble.{Trouble}
use Rattle.sd_command_base.specs.declared.trouble.Trouble.TheVariants as trouble
use Rattle.sd_host.specs.declared.error.FileError.{FileError}

-- what a user is told of an error of this kind; a file that is one of the inputs has the kind Other
-- [POSIX, ENOSPC, EDQUOT, EACCES, EISDIR, EPIPE, ECONNRESET, EROFS, EFBIG, ELOOP and ENAMETOOLONG]
abbrev pub trouble_at : ErrorKind → Trouble
trouble_at StorageFull = trouble.NoSpace
trouble_at QuotaExceeded = trouble.NoSpace
trouble_at PermissionDenied = trouble.Denied
trouble_at IsADirectory = trouble.Folder
trouble_at BrokenPipe = trouble.Gone
trouble_at ConnectionReset = trouble.Gone
trouble_at ReadOnlyFilesystem = trouble.ReadOnly
trouble_at FileTooLarge = trouble.TooLarge
trouble_at FilesystemLoop = trouble.Loop
trouble_at InvalidFilename = trouble.Loop
trouble_at kind.Other = trouble.Input
trouble_at kind = trouble.Other

-- the name of the file of an error, and what a user is told
abbrev pub told_trouble : FileError → List ℕ × Trouble
told_trouble error = (string_bytes error.name, trouble_at error.kind)
