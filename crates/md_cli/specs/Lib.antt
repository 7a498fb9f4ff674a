-- Commands that are asked first where a member in sync is not among the images.
pub mod AllNamed
-- What the commands that open a whole array give.
pub mod Arrays
-- Commands that may be asked first.
pub mod Asking
-- The image that counts as a device of the array.
pub mod CountedImage
-- What `create` makes of its options.
pub mod CreateOptions
-- What `create` does with the devices of the images.
pub mod Creating
-- What `grow` does with the devices of the images.
pub mod Growing
-- What members get in memory, where their images are only looked at.
pub mod InMemory
-- An opened array, and a device beside it.
pub mod Opened
-- What copies lack counts as part of the lists of the members.
pub mod Lacking
-- The map of the member that is rebuilt.
pub mod MapOfTarget
-- What commands do with an opened array.
pub mod Performing
-- Why a command is refused, as a JSON object.
pub mod Refusing
-- What one run gives.
pub mod Running
-- What is shown and told of the arrays of which images are members.
pub mod Scanning
-- The UUID of an array that `create` makes.
pub mod SetUuid
-- Lists that are longer in memory than in the logs are stored.
pub mod StoringLists
-- The input and the output of a run.
pub mod Streams
