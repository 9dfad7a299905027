-- The IOCTL request and response (MS-SMB2 2.2.31, 2.2.32).
use Rattle.std.specs.Prelude.{ℕ, List, [], ◌∷◌, Option, ◌++◌, length, ◌+◌}
use Rattle.spec_wire.specs.messages.Places.{number, bytes_at}
use Rattle.spec_wire.specs.messages.Table.{Field, Num, Raw, Any, Stands, with_fields, AreWritable, IsPart}
use Rattle.spec_wire.specs.messages.Aligned.{told, aligned_gap}
use Rattle.spec_wire.specs.messages.Fault.{◌or_else◌, fields_fault, size_fault, part_fault}
use Rattle.spec_wire.specs.declared.messages.error.MessageError.{MessageError}
use Rattle.spec_wire.specs.declared.messages.error.Part.TheVariants.{Input, Output}

pub record IoctlRequestValue : Type 0 where
  pub ctl_code : ℕ
  pub file_id : List ℕ
  pub max_input_response : ℕ
  pub max_output_response : ℕ
  pub flags : ℕ
  pub input : List ℕ
  pub output : List ℕ

-- The IOCTL request (MS-SMB2 2.2.31): StructureSize, Reserved, CtlCode, FileId, place and length of the input,
-- MaxInputResponse, place and length of the output, MaxOutputResponse, Flags, Reserved2.
abbrev pub ioctl_request_table : IoctlRequestValue → ℕ → ℕ → List Field
ioctl_request_table v input_at output_at =
    Num 2 57 ∷ Any 2 ∷ Num 4 v.ctl_code ∷ Raw 16 v.file_id ∷ Num 4 input_at ∷ Num 4 (length v.input)
    ∷ Num 4 v.max_input_response ∷ Num 4 output_at ∷ Num 4 (length v.output) ∷ Num 4 v.max_output_response
    ∷ Num 4 v.flags ∷ Any 4 ∷ []

-- m is a header and this request; other bytes may follow
pub record SpellsIoctlRequest (m : List ℕ) (v : IoctlRequestValue) : Type 0 where
  pub fixed : Stands m 64 (ioctl_request_table v (number 4 m 88) (number 4 m 100))
  pub input : IsPart m (number 4 m 88) (number 4 m 92) 120 v.input
  pub output : IsPart m (number 4 m 100) (number 4 m 104) 120 v.output

-- the request that stands in m
abbrev pub ioctl_request_in : List ℕ → IoctlRequestValue
ioctl_request_in m = record {
  ctl_code = number 4 m 68;
  file_id = bytes_at 16 m 72;
  max_input_response = number 4 m 96;
  max_output_response = number 4 m 108;
  flags = number 4 m 112;
  input = bytes_at (number 4 m 92) m (number 4 m 88);
  output = bytes_at (number 4 m 104) m (number 4 m 100);
}

abbrev pub ioctl_request_fault : List ℕ → Option MessageError
ioctl_request_fault m =
    fields_fault m (ioctl_request_table (ioctl_request_in m) (number 4 m 88) (number 4 m 100))
    or_else size_fault m 57
    or_else part_fault m (number 4 m 88) (number 4 m 92) 120 Input
    or_else part_fault m (number 4 m 100) (number 4 m 104) 120 Output

-- What is written behind a header: the input, then the output at the next multiple of 8. The place of one that is
-- empty is told as 0.
abbrev pub ioctl_request_whole : IoctlRequestValue → List Field
ioctl_request_whole v =
    ioctl_request_table v (told (length v.input) 120)
    (told (length v.output) (120 + length v.input + aligned_gap (length v.output) (length v.input)))
    ++ Raw (length v.input) v.input ∷ Any (aligned_gap (length v.output) (length v.input)) ∷ Raw (length v.output) v.output ∷ []

abbrev pub IsWritableIoctlRequest : IoctlRequestValue → Type 0
IsWritableIoctlRequest v = AreWritable (ioctl_request_whole v)

abbrev pub ioctl_request_spelling : IoctlRequestValue → List ℕ
ioctl_request_spelling v = with_fields [] (ioctl_request_whole v)

pub record IoctlResponseValue : Type 0 where
  pub ctl_code : ℕ
  pub file_id : List ℕ
  pub flags : ℕ
  pub input : List ℕ
  pub output : List ℕ

-- The IOCTL response (MS-SMB2 2.2.32): StructureSize, Reserved, CtlCode, FileId, place and length of the input,
-- place and length of the output, Flags, Reserved2.
abbrev pub ioctl_response_table : IoctlResponseValue → ℕ → ℕ → List Field
ioctl_response_table v input_at output_at =
    Num 2 49 ∷ Any 2 ∷ Num 4 v.ctl_code ∷ Raw 16 v.file_id ∷ Num 4 input_at ∷ Num 4 (length v.input)
    ∷ Num 4 output_at ∷ Num 4 (length v.output) ∷ Num 4 v.flags ∷ Any 4 ∷ []

-- m is a header and this response; other bytes may follow
pub record SpellsIoctlResponse (m : List ℕ) (v : IoctlResponseValue) : Type 0 where
  pub fixed : Stands m 64 (ioctl_response_table v (number 4 m 88) (number 4 m 96))
  pub input : IsPart m (number 4 m 88) (number 4 m 92) 112 v.input
  pub output : IsPart m (number 4 m 96) (number 4 m 100) 112 v.output

-- the response that stands in m
abbrev pub ioctl_response_in : List ℕ → IoctlResponseValue
ioctl_response_in m = record {
  ctl_code = number 4 m 68;
  file_id = bytes_at 16 m 72;
  flags = number 4 m 104;
  input = bytes_at (number 4 m 92) m (number 4 m 88);
  output = bytes_at (number 4 m 100) m (number 4 m 96);
}

abbrev pub ioctl_response_fault : List ℕ → Option MessageError
ioctl_response_fault m =
    fields_fault m (ioctl_response_table (ioctl_response_in m) (number 4 m 88) (number 4 m 96))
    or_else size_fault m 49
    or_else part_fault m (number 4 m 88) (number 4 m 92) 112 Input
    or_else part_fault m (number 4 m 96) (number 4 m 100) 112 Output

-- What is written behind a header: the input, then the output at the next multiple of 8. The place of one that is
-- empty is told as 0.
abbrev pub ioctl_response_whole : IoctlResponseValue → List Field
ioctl_response_whole v =
    ioctl_response_table v (told (length v.input) 112)
    (told (length v.output) (112 + length v.input + aligned_gap (length v.output) (length v.input)))
    ++ Raw (length v.input) v.input ∷ Any (aligned_gap (length v.output) (length v.input)) ∷ Raw (length v.output) v.output ∷ []

abbrev pub IsWritableIoctlResponse : IoctlResponseValue → Type 0
IsWritableIoctlResponse v = AreWritable (ioctl_response_whole v)

abbrev pub ioctl_response_spelling : IoctlResponseValue → List ℕ
ioctl_response_spelling v = with_fields [] (ioctl_response_whole v)
